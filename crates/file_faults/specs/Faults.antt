-- All faulty lines of a file.
use Rattle.std.specs.Prelude.{
  ℕ,
  ◌+◌,
  Bool,
  true,
  false,
  ◌==◌,
  if◌then◌else◌,
  List,
  [],
  ◌∷◌,
  Option,
  Some,
  None,
}
use Rattle.gedcom_rules.specs.declared.fault.TreeKind.{TreeKind}
use Rattle.gedcom_rules.specs.declared.fault.TreeKind.TheVariants.{
  TooLong,
  NoHead,
  NoTrailer,
  AfterTrailer,
  FileTooLarge,
}
use Rattle.gedcom_rules.specs.Faults.{Fault, overflows, within, extra}
use Rattle.gedcom_rules.specs.Pieces.{file_pieces}
use Rattle.file_faults.specs.Reading.{Course, at_start, fault_of, left_by}

-- a faulty line: its number, counted from 1 without blank lines, what is wrong with it first, and its bytes
pub record Faulty : Type 0 where
  pub line : ℕ
  pub kind : TreeKind
  pub text : List ℕ

-- what stands after the trailer is reported once, and ends the list
abbrev pub is_last : TreeKind → Bool
is_last AfterTrailer = true
is_last _ = false

-- the line after so many lines
abbrev pub faulty : Course → TreeKind → List ℕ → Faulty
faulty c k p = record { line = c.number + 1; kind = k; text = p }

abbrev pub noted : Course → List ℕ → Option TreeKind → List Faulty → List Faulty
noted c p None fs = fs
noted c p (Some k) fs = faulty c k p ∷ (if is_last k then [] else fs)

-- the faulty ones among pieces, and then what is faulty after them
unfoldable pub faults_in : Course → List (List ℕ) → (Course → List Faulty) → List Faulty
faults_in c [] rest = rest c
faults_in c (p ∷ ps) rest = noted c p (fault_of c p) (faults_in (left_by c p) ps rest)

-- the end of a file without a trailer: a line that is not there
abbrev pub at_end : Course → List Faulty
at_end c =
    if c.lines.done then [] else faulty c (if c.lines.count == 0 then NoHead else NoTrailer) [] ∷ []

-- the line within which a file gets too large, as far as it was read; it may be too long too, which comes first
abbrev pub cut_off : List ℕ → ℕ → Course → List Faulty
cut_off open_ next c = faulty c (if overflows open_ (Some next) then TooLong else FileTooLarge) open_ ∷ []

-- the last line, which no line end ends, and the end of the file; next is the byte that is more than a file may have
abbrev pub last_of : List ℕ → Option ℕ → Course → List Faulty
last_of open_ None c = faults_in c (open_ ∷ []) at_end
last_of open_ (Some next) c = cut_off open_ next c

-- the faulty lines of a file, in order
unfoldable pub faults : List ℕ → List Faulty
faults b = faults_in at_start (file_pieces (within b)).ended (last_of (file_pieces (within b)).open_ (extra b))

-- the first of them, as the one fault of a file
abbrev pub first_of : List Faulty → Option Fault
first_of [] = None
first_of (f ∷ fs) = Some (record { kind = f.kind; at = Some f.line })
