-- A cell without space, tab, LF and U+00A0, which is 194 and 160 in UTF-8, at its ends.
use Rattle.std.specs.Prelude.{ℕ, ◌==◌, ◌&&◌, ◌||◌, Bool, List, [], ◌∷◌, if◌then◌else◌, reverse}

abbrev pub is_blank : ℕ → Bool
is_blank b = b == 32 || b == 9 || b == 10

-- without the blanks before it, where one of them is two bytes
abbrev pub past_blanks : ℕ → ℕ → List ℕ → List ℕ
past_blanks first second [] = []
past_blanks first second (b ∷ []) = if is_blank b then [] else b ∷ []
past_blanks first second (b ∷ c ∷ more) =
    if is_blank b then past_blanks first second (c ∷ more)
    else if b == first && c == second then past_blanks first second more
    else b ∷ c ∷ more

-- without those after it
abbrev pub until_blanks : List ℕ → List ℕ
until_blanks bytes = reverse (past_blanks 160 194 (reverse bytes))

unfoldable pub trimmed : List ℕ → List ℕ
trimmed bytes = until_blanks (past_blanks 194 160 bytes)
