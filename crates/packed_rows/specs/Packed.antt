-- The lines of a record as one text. A rule of our own. What the row of a record shows beside it, the tag of the first
-- line and the number that this line names, is not in the text:
--
--     text = [ " " words ] LF *( line LF )
--     line = depth " " tag [ ">" number ] [ " " words ]
--
-- Numbers are decimal, without a leading zero. Words are the text of a line, each LF written as CR, which no text has.
use Rattle.std.specs.Prelude.{
  ℕ,
  ◌≡◌,
  ◌<◌,
  ◌^◌,
  ◌⊎◌,
  List,
  [],
  ◌∷◌,
  ◌++◌,
  Option,
  Some,
  None,
  IfSome,
  option_map,
  decimal,
}
use Rattle.std.specs.List.{AllByRecursion}
use Rattle.stored_lines.specs.Line.{Label}
use Rattle.record_text.specs.Text.{IsTag, IsText}
use Rattle.record_text.specs.Words.{replaced}
use Rattle.record_text.specs.declared.refusal.RefusalKind.{RefusalKind}
use Rattle.record_text.specs.declared.refusal.RefusalKind.TheVariants.{OutOfMemory, BadStored}

-- stored lines, each with its depth
abbrev pub StoredLines : Type 0
StoredLines = List (ℕ × Label)

-- what stands after a character, and the character before it, where there is something
abbrev pub behind : ℕ → Option (List ℕ) → List ℕ
behind mark None = []
behind mark (Some piece) = mark ∷ piece

-- a text with each LF written as CR
abbrev pub on_one_line : List ℕ → List ℕ
on_one_line text = replaced 10 (13 ∷ []) text

abbrev pub text_part : Option (List ℕ) → List ℕ
text_part text = behind 32 (option_map on_one_line text)

abbrev pub number_part : Option ℕ → List ℕ
number_part target = behind 62 (option_map decimal target)

abbrev pub line_text : ℕ × Label → List ℕ
line_text l = decimal l.0 ++ 32 ∷ (l.1.tag ++ (number_part l.1.target ++ text_part l.1.text))

-- lines, each with LF after it
abbrev pub lines_text : StoredLines → List ℕ
lines_text [] = []
lines_text (l ∷ ls) = line_text l ++ 10 ∷ lines_text ls

-- the packed text: the first line's own text, and the lines after it
abbrev pub packed : StoredLines → List ℕ
packed [] = []
packed (l ∷ ls) = text_part l.1.text ++ 10 ∷ lines_text ls

-- ---- the lines that can be packed and read again
-- a number of 32 bits
abbrev pub IsU32 : ℕ → Type 0
IsU32 n = n < 2 ^ 32

-- the values of a line are those of its type
abbrev pub IsTypedLine : ℕ × Label → Type 0
IsTypedLine l = IsU32 l.0 × IsTag l.1.tag × IfSome l.1.text IsText × IfSome l.1.target IsU32

-- the first line stands at depth 0, has this tag and names this number
abbrev pub BeginWith : List ℕ → Option ℕ → StoredLines → Type 0
BeginWith tag target [] = ⊥
BeginWith tag target (l ∷ ls) = (l.0 ≡ 0) × (l.1.tag ≡ tag) × (l.1.target ≡ target)

-- lines that have this text, with LF after each
pub record HaveText (text : List ℕ) (lines : StoredLines) : Type 0 where
  pub typed : AllByRecursion IsTypedLine lines
  pub tell : text ≡ lines_text lines

-- lines of which a row shows the first one's tag and number, and this text
pub record ArePackedAs (tag : List ℕ) (target : Option ℕ) (text : List ℕ) (lines : StoredLines) : Type 0 where
  pub typed : AllByRecursion IsTypedLine lines
  pub first : BeginWith tag target lines
  pub tell : text ≡ packed lines

-- why a text is refused: memory was, or this is not so
abbrev pub FailsUnless : Type 0 → RefusalKind → Type 0
FailsUnless Fact kind = (kind ≡ OutOfMemory) ⊎ ((kind ≡ BadStored) × ¬ Fact)
