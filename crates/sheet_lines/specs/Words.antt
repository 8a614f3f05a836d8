-- How words stand on a page: rules of our own.
use Rattle.std.specs.Prelude.{ℕ, ◌-◌, List, [], ◌∷◌, ◌++◌, length, codes, decimal, Option, Some, None}
use Rattle.std.specs.List.{repeat}
use Rattle.record_fields.specs.declared.date.Date.{Date}
use Rattle.record_text.specs.Naming.{displayed}
use Rattle.record_text.specs.Words.{replaced}
use Rattle.record_kinds.specs.Model as model

-- a text as it is printed: each LF is a space
abbrev pub printed : List ℕ → List ℕ
printed text = replaced 10 (32 ∷ []) text

-- each line ends with LF
abbrev pub line : List ℕ → List ℕ
line words = words ++ codes "\n"

-- a number at the right end of so many places
abbrev pub at_right : ℕ → ℕ → List ℕ
at_right places n = repeat (places - length (decimal n)) (codes " ") ++ decimal n

-- a person is displayed by the first name, and by `?` without names
abbrev pub display_of : List model.Name → List ℕ
display_of [] = codes "?"
display_of (x ∷ more) = displayed x.text

-- a person by number and display
abbrev pub who : ℕ → List ℕ → List ℕ
who n shown = decimal n ++ (codes " " ++ shown)

-- a date after a word, where there is one
abbrev pub dated : List ℕ → Option Date → List ℕ
dated word None = []
dated word (Some d) = word ++ printed d.text
