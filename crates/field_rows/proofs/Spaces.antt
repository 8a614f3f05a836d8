-- Spaces at the ends of texts.
use Rattle.std.proofs.Common.{◌≡◌, ◌≢◌, ℕ, List, [], ◌∷◌, ◌++◌, sym, ap, ◌∙◌}
use Rattle.record_shapes.specs.Paths.{from_word, backwards}
use Rattle.record_shapes.proofs.Trimmed.{backwards_push, as_it_is, twice}

-- ---- in front
pub word_on : (t rest next : List ℕ) → rest ≡ 32 ∷ next → from_word rest ≡ from_word t → from_word next ≡ from_word t
word_on t rest next e h = sym (ap from_word e) ∙ h

pub word_there : (t rest : List ℕ) → ((next : List ℕ) → rest ≢ 32 ∷ next) → from_word rest ≡ from_word t
    → rest ≡ from_word t
word_there t rest none h = sym (as_it_is rest none) ∙ h

-- ---- at the end
pub back_on : (t rest front : List ℕ) → rest ≡ front ++ (32 ∷ [])
    → from_word (backwards rest) ≡ from_word (backwards t) → from_word (backwards front) ≡ from_word (backwards t)
back_on t rest front e h = sym (ap from_word (ap backwards e ∙ backwards_push front 32)) ∙ h

pub back_there : (t rest : List ℕ) → ((front : List ℕ) → rest ≢ front ++ (32 ∷ []))
    → from_word (backwards rest) ≡ from_word (backwards t) → rest ≡ backwards (from_word (backwards t))
back_there t rest none h =
    let same : from_word (backwards rest) ≡ backwards rest = as_it_is (backwards rest)
    (λ front e. none (backwards front) (sym (twice rest) ∙ ap backwards e)) in
    sym (twice rest) ∙ ap backwards (sym same ∙ h)
