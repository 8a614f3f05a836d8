-- What an import reports: lines of the file that were not taken over as they stood, in the order of lines. Rules of our
-- own.
use Rattle.std.specs.Prelude.{
  ℕ,
  ◌+◌,
  ◌&&◌,
  ◌==◌,
  nat_le,
  not,
  Bool,
  List,
  [],
  ◌∷◌,
  ◌++◌,
  codes,
  Option,
  Some,
  None,
  if◌then◌else◌,
}
use Rattle.std.specs.List.{flat_map, list_any}
use Rattle.stored_lines.specs.Tree.{Tree, children, label, list_of}
use Rattle.stored_lines.specs.Line.{Line, Lines}
use Rattle.record_kinds.specs.Model as model
use Rattle.receipts.specs.declared.report.ReportLine.{ReportLine}
use Rattle.receipts.specs.declared.report.ReportWord.{ReportWord}
use Rattle.receipts.specs.declared.report.ReportWord.TheVariants as word
use Rattle.record_shapes.specs.Fields.{a_member, a_side, family_field, is_same, person_field}
use Rattle.record_shapes.specs.Forms.{Known, number_of, tag_of, tagged}
use Rattle.record_shapes.specs.Reading.{family_from}
use Rattle.gedcom_tree.specs.Forest.{Item}
use Rattle.import_definitions.specs.Nodes.{FileNode}
use Rattle.import_definitions.specs.Roots.{candidates, kept}
use Rattle.import_definitions.specs.Lines.{Lined, lined_roots, place_in, roots, unlined}
use Rattle.import_definitions.specs.Reports.{dangling, said_of_roots}
use Rattle.import_definitions.specs.Positions.{known}
use Rattle.import_definitions.specs.Sides.{lines_at, names_family}

-- ---- memberships: each line is judged by those before it in its node
abbrev pub said_on : ℕ → Option ReportWord → List ReportLine
said_on line None = []
said_on line (Some w) = record { line = line; word = w } ∷ []

abbrev pub judged : (Lines → Tree Line → Option ReportWord) → Lines → List (Tree Lined) → List ReportLine
judged judge before [] = []
judged judge before (t ∷ ts) =
    said_on (label t).0 (judge before (unlined t)) ++ judged judge (unlined t ∷ before) ts

-- a line of a family that names a person
abbrev pub names_member : Known → ℕ → Tree Line → Bool
names_member known person t = is_same (family_field known t) a_member && number_of t == person

-- a person whom a line before it names is doubled
abbrev pub judge_member : Known → Lines → Tree Line → Option ReportWord
judge_member known before t =
    if is_same (family_field known t) a_member && list_any (names_member known (number_of t)) before
    then Some word.Doubled else None

-- the person at a position is a partner in the family at another
abbrev pub is_partner : Lines → ℕ → ℕ → Bool
is_partner rs person family =
    list_any (λ (p : model.Partner). p.person == person) (family_from (known rs) (lines_at rs family)).partners

-- a line that names a family is FAMS exactly for those who are partners in it; for all others it is FAMC
abbrev pub is_sided : Bool → Tree Line → Bool
is_sided partner t = if partner then tagged (codes "FAMS") t else not (tagged (codes "FAMS") t)

-- a line of a person that names a family: it is for such persons, and none before it of its tag names that family
abbrev pub judge_side : Lines → ℕ → Lines → Tree Line → Option ReportWord
judge_side rs person before t =
    if is_same (person_field (known rs) t) a_side
    then (if is_sided (is_partner rs person (number_of t)) t
    then (if list_any (names_family (known rs) (tag_of t) (number_of t)) before then Some word.Doubled else None)
    else Some word.OneSided)
    else None

-- ---- of all nodes
abbrev pub said_of_family : Lines → Tree Lined → List ReportLine
said_of_family rs t = if tagged (codes "FAM") (unlined t)
    then judged (judge_member (known rs)) [] (list_of (children t)) else []

abbrev pub said_of_person : Lines → ℕ → Tree Lined → List ReportLine
said_of_person rs n t = if tagged (codes "INDI") (unlined t)
    then judged (judge_side rs n) [] (list_of (children t)) else []

-- of the persons among nodes, the first of which has position n
abbrev pub said_of_persons : Lines → ℕ → List (Tree Lined) → List ReportLine
said_of_persons rs n [] = []
said_of_persons rs n (t ∷ ts) = said_of_person rs n t ++ said_of_persons rs (n + 1) ts

abbrev pub said_of_members : Lines → List (Tree Lined) → List ReportLine
said_of_members rs ts = flat_map (said_of_family rs) ts ++ said_of_persons rs 0 ts

-- of lines below nodes: those whose pointers name nothing
abbrev pub said_of_lines : List FileNode → List ReportLine
said_of_lines ks = flat_map (λ (t : FileNode). dangling (place_in ks) (children t)) ks

-- ---- in the order of lines
abbrev pub put_in : ReportLine → List ReportLine → List ReportLine
put_in r [] = r ∷ []
put_in r (q ∷ qs) = if nat_le r.line q.line then r ∷ (q ∷ qs) else q ∷ put_in r qs

abbrev pub in_order : List ReportLine → List ReportLine
in_order [] = []
in_order (r ∷ rs) = put_in r (in_order rs)

-- of the nodes after the header, and those of them that become records
abbrev pub report_of : List FileNode → List FileNode → List ReportLine
report_of all ks =
    in_order (said_of_roots all ++ (said_of_members (roots ks) (lined_roots ks) ++ said_of_lines ks))

unfoldable pub report : List Item → List ReportLine
report f = report_of (candidates f) (kept (candidates f))
