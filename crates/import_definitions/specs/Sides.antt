-- Both sides of memberships (The GEDCOM Standard Release 5.5.1, chapter 2, FAM_RECORD, CHILD_TO_FAMILY_LINK and
-- SPOUSE_TO_FAMILY_LINK): a family names its members by HUSB, WIFE and CHIL, and a person the families by FAMC and
-- FAMS. What becomes of a membership that only one side has is a rule of our own.
use Rattle.std.specs.Prelude.{
  ℕ,
  ◌+◌,
  ◌&&◌,
  ◌==◌,
  not,
  Bool,
  List,
  [],
  ◌∷◌,
  ◌++◌,
  length,
  map,
  codes,
  Option,
  bytes_eq,
}
use Rattle.std.specs.List.{filter, list_any, slice_get}
use Rattle.stored_lines.specs.Tree.{Tree, node}
use Rattle.stored_lines.specs.Line.{Line, Lines}
use Rattle.record_kinds.specs.Model as model
use Rattle.record_kinds.specs.declared.record.Record.TheVariants as kind
use Rattle.record_shapes.specs.Entries.{below_on}
use Rattle.record_shapes.specs.Fields.{a_side, is_same, person_field}
use Rattle.record_shapes.specs.Forms.{Known, is_some, number_of, tagged}
use Rattle.record_shapes.specs.Members.{members}
use Rattle.record_shapes.specs.Picking.{first}
use Rattle.record_shapes.specs.Reading.{Draft, draft_of, read}
use Rattle.import_definitions.specs.Positions.{known, known_before, positions, tag_at}

-- the lines below the node at a position
abbrev pub lines_at : Lines → ℕ → Lines
lines_at rs k = below_on (slice_get rs k)

-- ---- the side of the person
-- a line of a person with that tag, FAMC or FAMS, that names the family
abbrev pub names_family : Known → List ℕ → ℕ → Tree Line → Bool
names_family known tag family t =
    is_same (person_field known t) a_side && (tagged tag t && number_of t == family)

-- the first such line of the person at a position
abbrev pub side_line : Lines → List ℕ → ℕ → ℕ → Option (Tree Line)
side_line rs tag family person = first (filter (names_family (known rs) tag family) (lines_at rs person))

-- what the person carries on the membership: nothing, where no line names the family
abbrev pub side_of : Lines → List ℕ → ℕ → ℕ → Lines
side_of rs tag family person = below_on (side_line rs tag family person)

-- the person at a position names the family as that of the parents
abbrev pub names_parents : Lines → ℕ → ℕ → Bool
names_parents rs family person =
    bytes_eq (tag_at rs person) (codes "INDI") && is_some (side_line rs (codes "FAMC") family person)

-- the persons that name it so, and that it does not name, in the order of the file: its last children
abbrev pub late : Lines → ℕ → model.Family → List ℕ
late rs family f =
    filter (λ n. names_parents rs family n && not (list_any (λ m. m == n) (members f))) (positions (length rs))

-- ---- the family with both sides
abbrev pub partner_with_side : Lines → ℕ → model.Partner → model.Partner
partner_with_side rs family p = record p { carried_by_person = side_of rs (codes "FAMS") family p.person }

abbrev pub child_with_side : Lines → ℕ → model.Child → model.Child
child_with_side rs family c = record c { carried_by_person = side_of rs (codes "FAMC") family c.person }

abbrev pub late_child : Lines → ℕ → ℕ → model.Child
late_child rs family n =
    record { person = n; carried = []; carried_by_person = side_of rs (codes "FAMC") family n }

abbrev pub family_with_sides : Lines → ℕ → model.Family → model.Family
family_with_sides rs family f = record {
  partners = map (partner_with_side rs family) f.partners;
  children = map (child_with_side rs family) f.children ++ map (late_child rs family) (late rs family f);
  carried = f.carried;
}

-- ---- what a node is read as
abbrev pub with_sides : Lines → ℕ → Draft → Draft
with_sides rs k (read (kind.Family f) path) = read (kind.Family (family_with_sides rs k f)) path
with_sides rs k d = d

-- a family at a position with both sides, any other record as it is
abbrev pub root_with_sides : Lines → ℕ → Tree Draft → Tree Draft
root_with_sides rs k (node d f) = node (with_sides rs k d) f

-- what the node at a position is read as, with all below it
abbrev pub draft_at : Lines → ℕ → Tree Line → Tree Draft
draft_at rs k r = root_with_sides rs k (draft_of (known_before rs k) (known rs) r)

-- what nodes of a file are read as, the first of which has position k
abbrev pub drafts_from : Lines → ℕ → Lines → List (Tree Draft)
drafts_from rs k [] = []
drafts_from rs k (r ∷ behind) = draft_at rs k r ∷ drafts_from rs (k + 1) behind
