-- The lines CHAR of the first HEAD: what they say, and which of them say something else than UTF-8.
use Rattle.std.specs.Prelude.{
  ℕ,
  ◌+◌,
  Bool,
  false,
  List,
  [],
  ◌∷◌,
  ◌++◌,
  Option,
  Some,
  None,
  codes,
  drop,
  if◌then◌else◌,
}
use Rattle.std.specs.Str.{bytes_eq}
use Rattle.character_sets.specs.declared.heads.LineHead.{LineHead}
use Rattle.file_conversion.specs.declared.charsets.Place.{Place}
use Rattle.file_conversion.specs.declared.charsets.Place.TheVariants.{Start}
use Rattle.character_sets.specs.Lines.{Line, is_blank}
use Rattle.character_sets.specs.Heads.{head_of}
use Rattle.file_conversion.specs.Charsets.{is_told, next_place, word_at}

-- from its tag on the line is `CHAR UTF-8`
abbrev pub says_utf8 : List ℕ → Option LineHead → Bool
says_utf8 body None = false
says_utf8 body (Some h) = bytes_eq (drop h.tag_at body) (codes "CHAR UTF-8")

-- a line CHAR of the first HEAD that gets another value, by its number
abbrev pub numbers_at : Place → ℕ → List ℕ → List ℕ
numbers_at place n body =
    if is_told place (head_of body) then (if says_utf8 body (head_of body) then [] else n ∷ []) else []

-- what a line CHAR of the first HEAD says
abbrev pub words_at : Place → List ℕ → List ℕ
words_at place body = if is_told place (head_of body) then 32 ∷ word_at body (head_of body) else []

abbrev pub numbers_in : Place → ℕ → List Line → List ℕ
numbers_in place n [] = []
numbers_in place n (l ∷ ls) = if is_blank l.body then numbers_in place n ls
    else numbers_at place n l.body ++ numbers_in (next_place place (head_of l.body)) (n + 1) ls

abbrev pub words_in : Place → List Line → List ℕ
words_in place [] = []
words_in place (l ∷ ls) = if is_blank l.body then words_in place ls
    else words_at place l.body ++ words_in (next_place place (head_of l.body)) ls

-- the lines CHAR of a file that get another value; and what all of them say, each with a space before it
abbrev pub numbers_of : List Line → List ℕ
numbers_of ls = numbers_in Start 1 ls

abbrev pub words_of : List Line → List ℕ
words_of ls = words_in Start ls
