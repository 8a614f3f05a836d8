-- A text as words, parted by one or more spaces, read in either case.
use Rattle.std.specs.Prelude.{◌≡◌, ◌≢◌, ℕ, ◌<◌, ◌==◌, Bool, List, [], ◌∷◌, map, length, slice_index}
use Rattle.std.specs.Borrow.{Bor}
use Rattle.std.specs.List.{slice_split}
use Rattle.std.specs.Char.{to_ascii_lowercase}

abbrev pub is_space : ℕ → Bool
is_space b = b == 32

-- no byte of the text is c
abbrev pub Without : ℕ → List ℕ → Type 0
Without c xs = (i : ℕ) → i < length xs → slice_index xs i ≢ c

-- the parts that are not empty
abbrev pub filled : List (List ℕ) → List (List ℕ)
filled [] = []
filled ([] ∷ parts) = filled parts
filled ((b ∷ bs) ∷ parts) = (b ∷ bs) ∷ filled parts

-- the words of a text
unfoldable pub words : List ℕ → List (List ℕ)
words text = filled (slice_split is_space text)

-- the word is that one, in either case of its letters
abbrev pub Reads : List ℕ → List ℕ → Type 0
Reads word keyword = map to_ascii_lowercase word ≡ map to_ascii_lowercase keyword

-- borrowed texts as their bytes
abbrev pub views : List (Bor (List ℕ)) → List (List ℕ)
views xs = map (λ x. x.now) xs
