-- Drafts as trees: a record, with what it owns below it.
use Rattle.std.specs.Prelude.{ℕ, List, None, map, codes, bytes_eq, if◌then◌else◌}
use Rattle.stored_lines.specs.Tree.{Tree, node, none, forest_of}
use Rattle.stored_lines.specs.Line.{Lines}
use Rattle.stored_lines.specs.declared.carried.Value.{Value}
use Rattle.record_kinds.specs.declared.record.Record.TheVariants as kind
use Rattle.record_shapes.specs.Forms.{Known}
use Rattle.record_shapes.specs.Fields.{family_field, person_field}
use Rattle.record_shapes.specs.Reading as reading
use Rattle.node_reading.specs.Owners.{owned_on, owned_tree}
use Rattle.node_reading.specs.declared.drafts.Draft.{Draft}
use Rattle.node_reading.specs.declared.drafts.Draft.TheVariants as draft
use Rattle.node_reading.specs.declared.kinds.NodeKind.{NodeKind}
use Rattle.node_reading.specs.declared.kinds.NodeKind.TheVariants as node_kind

-- the tree that a draft is
abbrev pub draft_tree : Draft → Tree reading.Draft
draft_tree (draft.Place p) = node (reading.read (kind.Place p) None) none
draft_tree (draft.Repo r) = node (reading.read (kind.Repo r) None) none
draft_tree (draft.Source s) = node (reading.read (kind.Source s) None) none
draft_tree (draft.Person p) = node (reading.read (kind.Person p.person) None) (forest_of (map owned_tree p.owned.items))
draft_tree (draft.Family f) = node (reading.read (kind.Family f.family) None) (forest_of (map owned_tree f.owned.items))
draft_tree (draft.Entry e) = node (reading.read (kind.Entry e) None) none
draft_tree (draft.Other o) = node (reading.read (kind.Other o) None) none

-- the kind of a record by its tag
abbrev pub kind_named : List ℕ → NodeKind
kind_named tag = if bytes_eq tag (codes "_LOC") then node_kind.Place
    else (if bytes_eq tag (codes "REPO") then node_kind.Repo
    else (if bytes_eq tag (codes "SOUR") then node_kind.Source
    else (if bytes_eq tag (codes "INDI") then node_kind.Person
    else (if bytes_eq tag (codes "FAM") then node_kind.Family else node_kind.Other))))

-- ---- what the lines below a record of each kind are read as
abbrev pub place_tree : Known → Lines → Tree reading.Draft
place_tree earlier ts = node (reading.read (kind.Place (reading.place_from earlier ts)) None) none

abbrev pub repo_tree : Lines → Tree reading.Draft
repo_tree ts = node (reading.read (kind.Repo (reading.repo_from ts)) None) none

abbrev pub source_tree : Known → Lines → Tree reading.Draft
source_tree known ts = node (reading.read (kind.Source (reading.source_from known ts)) None) none

abbrev pub person_tree : Known → Lines → Tree reading.Draft
person_tree known ts = node (reading.read (kind.Person (reading.person_from known ts)) None)
    (forest_of (owned_on known (person_field known) ts))

abbrev pub family_tree : Known → Lines → Tree reading.Draft
family_tree known ts = node (reading.read (kind.Family (reading.family_from known ts)) None)
    (forest_of (owned_on known (family_field known) ts))

abbrev pub other_tree : Known → List ℕ → Value → Lines → Tree reading.Draft
other_tree known tag v ts = node (reading.read (reading.registered known tag v ts) None) none

-- the same by the kind
abbrev pub tree_by : Known → Known → NodeKind → List ℕ → Value → Lines → Tree reading.Draft
tree_by earlier known node_kind.Place tag v ts = place_tree earlier ts
tree_by earlier known node_kind.Repo tag v ts = repo_tree ts
tree_by earlier known node_kind.Source tag v ts = source_tree known ts
tree_by earlier known node_kind.Person tag v ts = person_tree known ts
tree_by earlier known node_kind.Family tag v ts = family_tree known ts
tree_by earlier known node_kind.Other tag v ts = other_tree known tag v ts
