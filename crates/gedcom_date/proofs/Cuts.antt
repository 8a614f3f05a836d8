-- How the words of a text follow from its first space.
use Rattle.std.proofs.Common.{◌≡◌, ◌≢◌, ℕ, ◌<◌, false, List, [], ◌∷◌, ◌++◌, length, get_or, refl, ap, ◌∙◌, arith}
use Rattle.std.specs.List.{slice_split, All}
use Rattle.std.proofs.lemmas.List.Splits.{slice_split_at, slice_split_none}
use Rattle.std.proofs.lemmas.List.Elements.{All-from_get_or}
use Rattle.std.proofs.lemmas.Bool.Decides.{nat_tests}
use Rattle.gedcom_date.specs.Words.{words, filled, is_space, Without}

not_space : (b : ℕ) → b ≢ 32 → is_space b ≡ false
not_space b h = grind (arith, nat_tests)

-- no character of it passes the test
passes_none : (xs : List ℕ) → Without 32 xs → All (λ x. is_space x ≡ false) xs
passes_none xs none = All-from_get_or (λ x. is_space x ≡ false) xs 0 (λ i h. not_space (get_or xs i 0) (none i h))

-- a text of one word, or none
pub words_whole : (xs : List ℕ) → Without 32 xs → words xs ≡ filled (xs ∷ [])
unfolding words
words_whole xs none = ap filled (slice_split_none is_space xs (passes_none xs none))

-- a text with a space
pub words_cut : (xs ys : List ℕ) → Without 32 xs → words (xs ++ 32 ∷ ys) ≡ filled (xs ∷ slice_split is_space ys)
unfolding words
words_cut xs ys none = ap filled (slice_split_at is_space xs 32 ys (passes_none xs none) refl)

-- an empty part before a space
pub cut_empty : (rest word after : List ℕ) → rest ≡ word ++ 32 ∷ after → Without 32 word → length word ≡ 0
    → words rest ≡ words after
unfolding words
cut_empty rest [] after e none len = rw e refl
cut_empty rest (b ∷ bs) after e none len = absurd (omega arith)

-- a word before a space
pub cut_word : (rest word after : List ℕ) → rest ≡ word ++ 32 ∷ after → Without 32 word → 0 < length word
    → words rest ≡ word ∷ words after
unfolding words
cut_word rest [] after e none len = absurd (omega arith)
cut_word rest (b ∷ bs) after e none len = ap words e ∙ words_cut (b ∷ bs) after none

-- nothing
pub whole_empty : (rest : List ℕ) → length rest ≡ 0 → words rest ≡ []
unfolding words
whole_empty [] len = refl
whole_empty (b ∷ bs) len = absurd (omega arith)

-- one word
pub whole_word : (rest : List ℕ) → Without 32 rest → 0 < length rest → words rest ≡ rest ∷ words []
unfolding words
whole_word [] none len = absurd (omega arith)
whole_word (b ∷ bs) none len = words_whole (b ∷ bs) none
