-- Which fault a file of lines has, and which the bytes so far decide.
use Rattle.std.specs.Prelude.{
  ◌≡◌,
  ◌⊎◌,
  ℕ,
  ◌+◌,
  ◌<◌,
  ◌≤◌,
  Bool,
  true,
  false,
  not,
  ◌&&◌,
  ◌||◌,
  ◌==◌,
  nat_lt,
  if◌then◌else◌,
  List,
  [],
  ◌∷◌,
  ◌++◌,
  length,
  take,
  Option,
  Some,
  None,
  is_some,
  slice_get,
  Result,
  Ok,
  Err,
}
use Rattle.std.specs.List.{list_any}
use Rattle.gedcom_line.specs.Words.{is_end}
use Rattle.gedcom_line.specs.Reading.{Parts}
use Rattle.gedcom_line.specs.Line.{IsBlank, Line, Fault as LineFaultIs}
use Rattle.gedcom_line.specs.declared.fault.LineKind.{LineKind}
use Rattle.gedcom_rules.specs.declared.fault.TreeKind.{TreeKind}
use Rattle.gedcom_rules.specs.declared.fault.TreeKind.TheVariants.{TooLong, NoHead, NoTrailer, FileTooLarge}
use Rattle.gedcom_rules.specs.Pieces.{file_pieces, all_pieces}
use Rattle.gedcom_rules.specs.Rules.{progress_of, is_trailer, first_broken, of_line}

-- the most bytes between two terminators, a byte order mark not counted
abbrev pub max_line : ℕ
max_line = 65536

-- the most bytes of a file, a byte order mark counted
abbrev pub max_file : ℕ
max_file = 67108864

-- The pieces, after the lines before them, are blank or spell lines that break no rule; lines are those before and
-- these.
abbrev pub Clean : List Parts → List (List ℕ) → List Parts → Type 0
Clean before [] lines = lines ≡ before
Clean before (p ∷ ps) lines =
    (length p ≤ max_line)
    × ((IsBlank p × Clean before ps lines)
    ⊎ ((l : Parts) × (Line p l × ((first_broken (progress_of before) l ≡ None) × Clean (before ++ l ∷ []) ps lines))))

-- the piece is no line, for this reason first
abbrev pub IsNoLine : List ℕ → TreeKind → Type 0
IsNoLine p k = (j : LineKind) × (LineFaultIs p j × (k ≡ of_line j))

-- the piece is a line, and after the lines before it this is the first rule that it breaks
abbrev pub BreaksFirst : List Parts → List ℕ → TreeKind → Type 0
BreaksFirst before p k = (l : Parts) × (Line p l × (first_broken (progress_of before) l ≡ Some k))

-- what is wrong with a piece after lines
abbrev pub IsFaulty : List Parts → List ℕ → TreeKind → Type 0
IsFaulty before p k = ((k ≡ TooLong) × (max_line < length p))
    ⊎ ((length p ≤ max_line) × (IsNoLine p k ⊎ BreaksFirst before p k))

-- What a piece is after lines: blank, or a line that breaks no rule, or faulty for this reason first.
abbrev pub Judged : List Parts → List ℕ → Result (Option Parts) TreeKind → Type 0
Judged before p (Ok None) = (length p ≤ max_line) × IsBlank p
Judged before p (Ok (Some l)) = (length p ≤ max_line) × (Line p l × (first_broken (progress_of before) l ≡ None))
Judged before p (Err k) = IsFaulty before p k

-- a refusal, and the line that it speaks of, counted from 1 without blank lines
pub record Fault : Type 0 where
  pub kind : TreeKind
  pub at : Option ℕ

-- a refusal that speaks of no line
abbrev pub IsLineless : TreeKind → Fault → Type 0
IsLineless k f = (f.kind ≡ k) × (f.at ≡ None)

-- the first faulty piece
pub record FaultIn (before : List Parts) (ps : List (List ℕ)) (f : Fault) : Type 0 where
  pub front : List (List ℕ)
  pub bad : List ℕ
  pub back : List (List ℕ)
  pub lines : List Parts
  pub parts : ps ≡ front ++ bad ∷ back
  pub clean : Clean before front lines
  pub kind : IsFaulty lines bad f.kind
  pub at : f.at ≡ Some (length lines + 1)

-- the byte goes on with the line
abbrev pub goes_on : Option ℕ → Bool
goes_on None = false
goes_on (Some b) = not (is_end b)

-- the line that has not ended is too long, or the next byte makes it so
abbrev pub overflows : List ℕ → Option ℕ → Bool
overflows rest next = nat_lt max_line (length rest) || (length rest == max_line && goes_on next)

-- as many bytes as a file may have, and the byte after them
unfoldable pub within : List ℕ → List ℕ
within b = take max_file b

unfoldable pub extra : List ℕ → Option ℕ
extra b = slice_get b max_file

-- No piece that has ended is faulty, but the line that has not ended, or the file, is too long.
pub record OverLimit (b : List ℕ) (f : Fault) : Type 0 where
  pub lines : List Parts
  pub clean : Clean [] (file_pieces (within b)).ended lines
  pub at : f.at ≡ Some (length lines + 1)
  pub kind :
      ((f.kind ≡ TooLong) × (overflows (file_pieces (within b)).open_ (extra b) ≡ true))
      ⊎ ((f.kind ≡ FileTooLarge) × ((overflows (file_pieces (within b)).open_ (extra b) ≡ false)
      × (is_some (extra b) ≡ true)))

-- The bytes so far decide the fault, however they go on. A piece is judged where it ends, within the most bytes of a
-- file.
abbrev pub Decides : List ℕ → Fault → Type 0
Decides b f = FaultIn [] (file_pieces (within b)).ended f ⊎ OverLimit b f

-- The bytes so far decide no fault.
abbrev pub IsOpen : List ℕ → Type 0
IsOpen b = (f : Fault) → ¬ (Decides b f)

-- no piece is faulty, but no trailer stands
pub record EndsEarly (b : List ℕ) (f : Fault) : Type 0 where
  pub lines : List Parts
  pub clean : Clean [] (all_pieces b) lines
  pub unended : list_any is_trailer lines ≡ false
  pub kind : f.kind ≡ (if length lines == 0 then NoHead else NoTrailer)
  pub at : f.at ≡ Some (length lines + 1)

-- the fault of a whole file
abbrev pub FaultOf : List ℕ → Fault → Type 0
FaultOf b f = ((max_file < length b) × Decides b f)
    ⊎ ((length b ≤ max_file) × (FaultIn [] (all_pieces b) f ⊎ EndsEarly b f))
