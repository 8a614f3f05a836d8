-- What the lines of a node tell of memberships (The GEDCOM Standard Release 5.5.1, chapter 2, FAM_RECORD,
-- CHILD_TO_FAMILY_LINK, SPOUSE_TO_FAMILY_LINK): HUSB, WIFE and CHIL of a family, FAMC and FAMS of a person.
use Rattle.std.specs.Prelude.{ℕ, ◌||◌, not, Bool, List, Option, Some, None, codes, bytes_eq, if◌then◌else◌}
use Rattle.stored_lines.specs.Tree.{label}
use Rattle.stored_lines.specs.Line.{Lines}
use Rattle.gedcom_line.specs.Value.{Meaning, Text, Pointer}
use Rattle.import_definitions.specs.Nodes.{FileLine, FileNode}
use Rattle.import_definitions.specs.Lines.{place_in, roots}
use Rattle.import_definitions.specs.Positions.{tag_at}
use Rattle.file_records.specs.declared.told.Told.{Told}

-- the position, where the node there has the tag
abbrev pub with_tag : Lines → List ℕ → Option ℕ → Option ℕ
with_tag rs tag None = None
with_tag rs tag (Some k) = if bytes_eq (tag_at rs k) tag then Some k else None

-- the position that a value names
abbrev pub position_in : (List ℕ → Option ℕ) → Meaning → Option ℕ
position_in place (Text t) = None
position_in place (Pointer name) = place name

-- the position of the node of that tag that a line names
abbrev pub named : List FileNode → List ℕ → FileLine → Option ℕ
named ks tag l = with_tag (roots ks) tag (position_in (place_in ks) l.value)

-- what is known where a record of the right kind is named
abbrev pub told_as : Bool → Option ℕ → Option Told
told_as as_partner None = None
told_as as_partner (Some k) = Some (record { other = k; as_partner = as_partner })

-- by a line of a family: the person, as a partner or as a child
abbrev pub is_member_tag : List ℕ → Bool
is_member_tag tag = bytes_eq tag (codes "HUSB") || (bytes_eq tag (codes "WIFE") || bytes_eq tag (codes "CHIL"))

abbrev pub member_as : List ℕ → Option ℕ → Option Told
member_as tag person = if is_member_tag tag then told_as (not (bytes_eq tag (codes "CHIL"))) person else None

abbrev pub member_told : List FileNode → FileNode → Option Told
member_told ks c = member_as (label c).tag (named ks (codes "INDI") (label c))

-- by a line of a person: the family, and whether the person is a partner in it
abbrev pub is_side_tag : List ℕ → Bool
is_side_tag tag = bytes_eq tag (codes "FAMC") || bytes_eq tag (codes "FAMS")

abbrev pub side_as : List ℕ → Option ℕ → Option Told
side_as tag family = if is_side_tag tag then told_as (bytes_eq tag (codes "FAMS")) family else None

abbrev pub side_told : List FileNode → FileNode → Option Told
side_told ks c = side_as (label c).tag (named ks (codes "FAM") (label c))
