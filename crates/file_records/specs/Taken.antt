-- The lines of persons that count as their sides of memberships, and what is said of the others.
use Rattle.std.specs.Prelude.{
  ℕ,
  ◌+◌,
  ◌==◌,
  ◌||◌,
  Bool,
  true,
  false,
  List,
  [],
  ◌∷◌,
  ◌++◌,
  Option,
  Some,
  None,
  codes,
  bytes_eq,
  if◌then◌else◌,
}
use Rattle.std.specs.List.{slice_get}
use Rattle.stored_lines.specs.Tree.{children, label, list_of}
use Rattle.receipts.specs.declared.report.ReportLine.{ReportLine}
use Rattle.receipts.specs.declared.report.ReportWord.{ReportWord}
use Rattle.receipts.specs.declared.report.ReportWord.TheVariants as word
use Rattle.import_definitions.specs.Nodes.{FileLine, FileNode}
use Rattle.file_records.specs.Members.{membership}
use Rattle.file_records.specs.Told.{side_told}
use Rattle.file_records.specs.declared.sides.Side.{Side}
use Rattle.file_records.specs.declared.told.Told.{Told}

abbrev pub is_none : {A : Type 0} → Option A → Bool
is_none None = true
is_none (Some a) = false

-- FAMS is for partners, and FAMC for all others
abbrev pub fits : Bool → Option Bool → Bool
fits true (Some true) = true
fits true _ = false
fits false (Some true) = false
fits false _ = true

-- what is said of a line of a person, by how the family names the person and whether a line before it was taken
abbrev pub word_of : Told → Option Bool → Bool → Option ReportWord
word_of t member is_taken =
    if fits t.as_partner member then (if is_taken then Some word.Doubled else None) else Some word.OneSided

-- it is taken where nothing is said
abbrev pub side_if : ℕ → ℕ → Told → Option Bool → Option ReportWord → List Side
side_if n i t member None = record { family = t.other; person = n; line = i; is_late = is_none member } ∷ []
side_if n i t member (Some w) = []

abbrev pub said_if : FileLine → Option ReportWord → List ReportLine
said_if l None = []
said_if l (Some w) = record { line = l.line; word = w } ∷ []

abbrev pub taken_if : Told → Option ReportWord → (ℕ → Bool) → ℕ → Bool
taken_if t None taken k = t.other == k || taken k
taken_if t (Some w) taken k = taken k

-- ---- of a line of a person, by how each family names the person and which were taken before it
abbrev pub word_at : (ℕ → Option Bool) → (ℕ → Bool) → Told → Option ReportWord
word_at member taken t = word_of t (member t.other) (taken t.other)

abbrev pub side_by : ℕ → (ℕ → Option Bool) → (ℕ → Bool) → ℕ → Option Told → List Side
side_by n member taken i None = []
side_by n member taken i (Some t) = side_if n i t (member t.other) (word_at member taken t)

abbrev pub said_by : (ℕ → Option Bool) → (ℕ → Bool) → FileLine → Option Told → List ReportLine
said_by member taken l None = []
said_by member taken l (Some t) = said_if l (word_at member taken t)

abbrev pub taken_by : (ℕ → Option Bool) → (ℕ → Bool) → Option Told → ℕ → Bool
taken_by member taken None k = taken k
taken_by member taken (Some t) k = taken_if t (word_at member taken t) taken k

-- ---- of the lines of person n, the first of which is line i
abbrev pub sides_on : List FileNode → ℕ → (ℕ → Option Bool) → (ℕ → Bool) → ℕ → List FileNode → List Side
sides_on ks n member taken i [] = []
sides_on ks n member taken i (c ∷ cs) = side_by n member taken i (side_told ks c)
    ++ sides_on ks n member (taken_by member taken (side_told ks c)) (i + 1) cs

abbrev pub said_on : List FileNode → (ℕ → Option Bool) → (ℕ → Bool) → List FileNode → List ReportLine
said_on ks member taken [] = []
said_on ks member taken (c ∷ cs) = said_by member taken (label c) (side_told ks c)
    ++ said_on ks member (taken_by member taken (side_told ks c)) cs

-- ---- of nodes; one that is no person has no sides. By how each family names each person
abbrev pub sides_by_members : List FileNode → (ℕ → ℕ → Option Bool) → ℕ → FileNode → List Side
sides_by_members ks member n t = if bytes_eq (label t).tag (codes "INDI")
    then sides_on ks n (λ k. member k n) (λ k. false) 0 (list_of (children t)) else []

abbrev pub said_by_members : List FileNode → (ℕ → ℕ → Option Bool) → ℕ → FileNode → List ReportLine
said_by_members ks member n t = if bytes_eq (label t).tag (codes "INDI")
    then said_on ks (λ k. member k n) (λ k. false) (list_of (children t)) else []

-- the first of them has position n
abbrev pub sides_from : List FileNode → (ℕ → ℕ → Option Bool) → ℕ → List FileNode → List Side
sides_from ks member n [] = []
sides_from ks member n (t ∷ ts) = sides_by_members ks member n t ++ sides_from ks member (n + 1) ts

abbrev pub said_from : List FileNode → (ℕ → ℕ → Option Bool) → ℕ → List FileNode → List ReportLine
said_from ks member n [] = []
said_from ks member n (t ∷ ts) = said_by_members ks member n t ++ said_from ks member (n + 1) ts

-- ---- the whole
abbrev pub named_in : List FileNode → ℕ → ℕ → Option Bool
named_in ks k n = membership ks (slice_get ks k) n

unfoldable pub sides : List FileNode → List Side
sides ks = sides_from ks (named_in ks) 0 ks

unfoldable pub said_of_sides : List FileNode → List ReportLine
said_of_sides ks = said_from ks (named_in ks) 0 ks
