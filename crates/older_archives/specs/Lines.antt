-- The line of the date among the lines of a record, as the code finds it. No clause of a public call names these
-- definitions.
use Rattle.std.specs.Prelude.{
  ℕ,
  ◌+◌,
  ◌&&◌,
  ◌==◌,
  ◌∷◌,
  ◌++◌,
  List,
  [],
  Option,
  Some,
  None,
  bytes_eq,
  if◌then◌else◌,
  slice_get,
  codes,
}
use Rattle.std.proofs.Common.{take, drop}
use Rattle.stored_lines.specs.Line.{Label}

-- where it stands: of an event the third line, of a register entry the fifth
abbrev pub place_in : List (ℕ × Label) → Option ℕ
place_in [] = None
place_in (l ∷ ls) = if bytes_eq l.1.tag (codes "event") then Some 2
    else (if bytes_eq l.1.tag (codes "entry") then Some 4 else None)

-- the text on the line, where it is that of a date
abbrev pub text_on : Option (ℕ × Label) → Option (List ℕ)
text_on None = None
text_on (Some l) = if (l.0 == 1) && bytes_eq l.1.tag (codes "date") then l.1.text else None

abbrev pub date_line_at : List (ℕ × Label) → Option ℕ → Option (List ℕ)
date_line_at lines None = None
date_line_at lines (Some at) = text_on (slice_get lines at)

-- the text of the date on the lines of a record
abbrev pub date_line : List (ℕ × Label) → Option (List ℕ)
date_line lines = date_line_at lines (place_in lines)

-- the line with another text
abbrev pub line_with : List ℕ → ℕ × Label → ℕ × Label
line_with text l = (l.0, record l.1 { text = Some text })

abbrev pub lines_at : ℕ → List ℕ → Option (ℕ × Label) → List (ℕ × Label) → List (ℕ × Label)
lines_at at text None lines = lines
lines_at at text (Some l) lines = take at lines ++ (line_with text l ∷ drop (at + 1) lines)

-- the lines with another text on the one that stands there
abbrev pub lines_with : ℕ → List ℕ → List (ℕ × Label) → List (ℕ × Label)
lines_with at text lines = lines_at at text (slice_get lines at) lines
