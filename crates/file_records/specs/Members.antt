-- The members that families name.
use Rattle.std.specs.Prelude.{
  ℕ,
  ◌==◌,
  ◌||◌,
  Bool,
  false,
  List,
  [],
  ◌∷◌,
  ◌++◌,
  map,
  Option,
  Some,
  None,
  codes,
  bytes_eq,
  if◌then◌else◌,
}
use Rattle.stored_lines.specs.Tree.{children, label, list_of}
use Rattle.receipts.specs.declared.report.ReportLine.{ReportLine}
use Rattle.receipts.specs.declared.report.ReportWord.TheVariants as word
use Rattle.import_definitions.specs.Nodes.{FileLine, FileNode}
use Rattle.import_definitions.specs.Numbers.{or_else}
use Rattle.file_records.specs.Told.{member_told}
use Rattle.file_records.specs.declared.told.Told.{Told}

-- how a line names a person: as a partner or not; none where it does not
abbrev pub names_as : ℕ → Option Told → Option Bool
names_as n None = None
names_as n (Some t) = if t.other == n then Some t.as_partner else None

-- how the first line that names a person does
abbrev pub first_as : ℕ → List (Option Told) → Option Bool
first_as n [] = None
first_as n (t ∷ ts) = or_else (names_as n t) (first_as n ts)

abbrev pub members_told : List FileNode → List FileNode → List (Option Told)
members_told ks cs = map (member_told ks) cs

-- how a node names a person as a member; one that is no family names none
abbrev pub membership_of : List FileNode → FileNode → ℕ → Option Bool
membership_of ks t n = if bytes_eq (label t).tag (codes "FAM")
    then first_as n (members_told ks (list_of (children t))) else None

abbrev pub membership : List FileNode → Option FileNode → ℕ → Option Bool
membership ks None n = None
membership ks (Some t) n = membership_of ks t n

-- lines that name a person whom a line before them has named, where some were named before
abbrev pub seen_by : (ℕ → Bool) → Option Told → ℕ → Bool
seen_by seen None n = seen n
seen_by seen (Some t) n = t.other == n || seen n

abbrev pub doubled_by : (ℕ → Bool) → FileLine → Option Told → List ReportLine
doubled_by seen l None = []
doubled_by seen l (Some t) =
    if seen t.other then record { line = l.line; word = word.Doubled } ∷ [] else []

abbrev pub doubled : List FileNode → (ℕ → Bool) → List FileNode → List ReportLine
doubled ks seen [] = []
doubled ks seen (c ∷ cs) =
    doubled_by seen (label c) (member_told ks c) ++ doubled ks (seen_by seen (member_told ks c)) cs

-- of a node: of one that is no family none
abbrev pub doubled_in : List FileNode → FileNode → List ReportLine
doubled_in ks t = if bytes_eq (label t).tag (codes "FAM") then doubled ks (λ n. false) (list_of (children t)) else []
