-- Texts cut at a character and put together again.
use Rattle.std.specs.Prelude.{◌≢◌, ℕ, ◌<◌, ◌==◌, Bool, if◌then◌else◌, List, [], ◌∷◌, ◌++◌, length, slice_index}
use Rattle.std.specs.List.{slice_split}

abbrev pub is_space : ℕ → Bool
is_space b = b == 32

-- no byte of the text is c
abbrev pub Without : ℕ → List ℕ → Type 0
Without c xs = (i : ℕ) → i < length xs → slice_index xs i ≢ c

-- the text with each c replaced by others
abbrev pub replaced : ℕ → List ℕ → List ℕ → List ℕ
replaced c by [] = []
replaced c by (b ∷ bs) = if b == c then by ++ replaced c by bs else b ∷ replaced c by bs

-- the parts that are not empty
abbrev pub filled : List (List ℕ) → List (List ℕ)
filled [] = []
filled ([] ∷ parts) = filled parts
filled ((b ∷ bs) ∷ parts) = (b ∷ bs) ∷ filled parts

-- the words of a text: its parts between spaces, runs of spaces counting as one
unfoldable pub words : List ℕ → List (List ℕ)
words text = filled (slice_split is_space text)
