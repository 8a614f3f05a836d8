-- A text is as it is without the spaces at its ends exactly where there is none.
use Rattle.std.proofs.Common.{
  ◌≡◌,
  ◌≢◌,
  ◌⊎◌,
  ℕ,
  ◌+◌,
  ◌≤◌,
  ◌<◌,
  List,
  [],
  ◌∷◌,
  ◌++◌,
  length,
  true,
  false,
  ◌==◌,
  refl,
  sym,
  ap,
  ◌∙◌,
  inl,
  inr,
  arith,
}
use Rattle.std.specs.Prelude.{if◌then◌else◌}
use Rattle.std.proofs.lemmas.List.{length-append}
use Rattle.record_shapes.specs.Paths.{from_word, backwards, trimmed}
use Rattle.record_shapes.proofs.Trimmed.{length_backwards, twice, backwards_push, as_it_is}

-- what spaces are taken from is the same or shorter
word_cases : (t : List ℕ) → (from_word t ≡ t) ⊎ (length (from_word t) < length t)
word_cases [] = inl refl
word_cases (b ∷ bs) = elim (b == 32) as (λ x. ((if x then from_word bs else b ∷ bs) ≡ b ∷ bs)
    ⊎ (length (if x then from_word bs else b ∷ bs) < length (b ∷ bs))) [
      | true ↦ inr (elim (word_cases bs) as (λ _. length (from_word bs) < length (b ∷ bs)) [
        | inl e ↦ let same : length (from_word bs) ≡ length bs = ap length e in omega arith
        | inr less ↦ omega arith
      ])
      | false ↦ inl refl
    ]

pub trimmed_cases : (t : List ℕ) → (trimmed t ≡ t) ⊎ (length (trimmed t) < length t)
trimmed_cases t =
    let back : length (trimmed t) ≡ length (from_word (backwards (from_word t))) = length_backwards
    (from_word (backwards (from_word t))) in
    let turned : length (backwards (from_word t)) ≡ length (from_word t) = length_backwards (from_word t) in
    elim (word_cases (backwards (from_word t))) as (λ _. (trimmed t ≡ t) ⊎ (length (trimmed t) < length t)) [
      | inl same ↦ elim (word_cases t) as (λ _. (trimmed t ≡ t) ⊎ (length (trimmed t) < length t)) [
        | inl front ↦ inl (ap backwards same ∙ twice (from_word t) ∙ front)
        | inr less ↦ let e : length (from_word (backwards (from_word t))) ≡ length (backwards (from_word t)) = ap length
            same in inr (omega arith)
      ]
      | inr shorter ↦ elim (word_cases t) as (λ _. (trimmed t ≡ t) ⊎ (length (trimmed t) < length t)) [
        | inl front ↦ let e : length (from_word t) ≡ length t = ap length front in inr (omega arith)
        | inr less ↦ inr (omega arith)
      ]
    ]

no_more : (t : List ℕ) → length (from_word t) ≤ length t
no_more t = elim (word_cases t) as (λ _. length (from_word t) ≤ length t) [
  | inl e ↦ let same : length (from_word t) ≡ length t = ap length e in omega arith
  | inr less ↦ omega arith
]

-- ---- no space at the ends

pub none_at_ends : (t : List ℕ) → ((rest : List ℕ) → t ≢ 32 ∷ rest)
    → ((front : List ℕ) → t ≢ front ++ (32 ∷ [])) → trimmed t ≡ t
none_at_ends t first last =
    let front : from_word t ≡ t = as_it_is t first in
    let back : from_word (backwards t) ≡ backwards t = as_it_is (backwards t)
    (λ rest e. last (backwards rest) (sym (twice t) ∙ ap backwards e)) in
    ap (λ x. backwards (from_word (backwards x))) front ∙ ap backwards back ∙ twice t

-- ---- a space at an end
pub none_in_front : (t rest : List ℕ) → trimmed t ≡ t → t ≡ 32 ∷ rest → ⊥
none_in_front t rest same e =
    let whole : length t ≡ length (trimmed (32 ∷ rest)) = ap length (sym same) ∙ ap (λ x. length (trimmed x)) e in
    let long : length t ≡ length (32 ∷ rest) = ap length e in
    let back : length (trimmed (32 ∷ rest)) ≡ length (from_word (backwards (from_word rest))) = length_backwards
    (from_word (backwards (from_word rest))) in
    let inner : length (from_word (backwards (from_word rest))) ≤ length (backwards (from_word rest)) = no_more
    (backwards (from_word rest)) in
    let turned : length (backwards (from_word rest)) ≡ length (from_word rest) = length_backwards (from_word rest) in
    let less : length (from_word rest) ≤ length rest = no_more rest in
    omega arith

pub none_behind : (t front : List ℕ) → trimmed t ≡ t → t ≡ front ++ (32 ∷ []) → ⊥
none_behind t front same e =
    let whole : length t ≡ length (from_word (backwards (from_word t))) = ap length (sym same)
    ∙ length_backwards (from_word (backwards (from_word t))) in
    let long : length t ≡ length front + 1 = ap length e ∙ length-append front (32 ∷ []) in
    elim (word_cases t) as (λ _. ⊥) [
      | inl stays ↦
          let turned : backwards (from_word t) ≡ 32 ∷ backwards front = ap backwards (stays ∙ e)
          ∙ backwards_push front 32 in
          let short : length (from_word (backwards (from_word t))) ≡ length (from_word (backwards front)) = ap
          (λ x. length (from_word x)) turned in
          let less : length (from_word (backwards front)) ≤ length (backwards front) = no_more (backwards front) in
          let back : length (backwards front) ≡ length front = length_backwards front in
          omega arith
      | inr shorter ↦
          let less : length (from_word (backwards (from_word t))) ≤ length (backwards (from_word t)) = no_more
          (backwards (from_word t)) in
          let back : length (backwards (from_word t)) ≡ length (from_word t) = length_backwards (from_word t) in
          omega arith
    ]
