-- A text without the spaces around it.
use Rattle.std.proofs.Common.{
  refl,
  List,
  ap,
  ◌≡◌,
  ℕ,
  ◌∷◌,
  ◌++◌,
  [],
  ◌∙◌,
  ◌==◌,
  ◌≢◌,
  true,
  false,
  ◌+◌,
  length,
  arith,
  Bool,
  cond,
}
use Rattle.std.specs.Prelude.{if◌then◌else◌}
use Rattle.record_shapes.specs.Paths.{backwards, from_word, trimmed}
use Rattle.list_laws.proofs.Numbers.{it}

pub backwards_push : (xs : List ℕ) (b : ℕ) → backwards (xs ++ (b ∷ [])) ≡ b ∷ backwards xs
backwards_push [] b = refl
backwards_push (x ∷ xs) b = ap (λ l. l ++ (x ∷ [])) (backwards_push xs b)

pub twice : (t : List ℕ) → backwards (backwards t) ≡ t
twice [] = refl
twice (b ∷ bs) = backwards_push (backwards bs) b ∙ ap (λ l. b ∷ l) (twice bs)

pub as_it_is : (t : List ℕ) → ((rest : List ℕ) → t ≢ 32 ∷ rest) → from_word t ≡ t
as_it_is [] h = refl
as_it_is (b ∷ bs) h = elim (b == 32) as (λ x. (b == 32) ≡ x → (if x then from_word bs else b ∷ bs) ≡ b ∷ bs) [
  | true ↦ λ e. absurd (h bs (ap (λ y. y ∷ bs) (it b 32 e)))
  | false ↦ λ e. refl
] refl

length_push : (xs : List ℕ) (y : ℕ) → length (xs ++ (y ∷ [])) ≡ length xs + 1
length_push [] y = refl
length_push (x ∷ xs) y = let more : length (xs ++ (y ∷ [])) ≡ length xs + 1 = length_push xs y in omega arith

pub length_backwards : (t : List ℕ) → length (backwards t) ≡ length t
length_backwards [] = refl
length_backwards (b ∷ bs) =
    let push : length (backwards bs ++ (b ∷ [])) ≡ length (backwards bs) + 1 = length_push (backwards bs) b in
    let less : length (backwards bs) ≡ length bs = length_backwards bs in
    omega arith

starts : List ℕ → Bool
starts [] = false
starts (b ∷ bs) = b == 32

word_starts : (t : List ℕ) → starts (from_word t) ≡ false
unfolding starts
word_starts [] = refl
word_starts (b ∷ bs) = elim (b == 32) as (λ x. (b == 32) ≡ x → starts (cond x (from_word bs) (b ∷ bs)) ≡ false) [
  | true ↦ λ e. word_starts bs
  | false ↦ λ e. e
] refl

word_same : (t : List ℕ) → starts t ≡ false → from_word t ≡ t
unfolding starts
word_same [] e = refl
word_same (b ∷ bs) e = ap (λ x. cond x (from_word bs) (b ∷ bs)) e

starts_front : (xs ys : List ℕ) → starts (xs ++ ys) ≡ false → starts xs ≡ false
unfolding starts
starts_front [] ys e = refl
starts_front (x ∷ xs) ys e = e

-- without spaces at its end, a text begins as it did
back_starts : (w : List ℕ) → starts (backwards w) ≡ false → starts (backwards (from_word w)) ≡ false
back_starts [] e = e
back_starts (b ∷ bs) e = elim (b == 32) as (λ x. starts (backwards (cond x (from_word bs) (b ∷ bs))) ≡ false) [
  | true ↦ back_starts bs (starts_front (backwards bs) (b ∷ []) e)
  | false ↦ e
]

pub trimmed_twice : (t : List ℕ) → trimmed (trimmed t) ≡ trimmed t
trimmed_twice t =
    let w : List ℕ = backwards (from_word t) in
    let v : List ℕ = backwards (from_word w) in
    let first : starts (backwards w) ≡ false = ap starts (twice (from_word t)) ∙ word_starts t in
    let front : from_word v ≡ v = word_same v (back_starts w first) in
    ap (λ x. backwards (from_word (backwards x))) front
    ∙ ap (λ x. backwards (from_word x)) (twice (from_word w))
    ∙ ap backwards (word_same (from_word w) (word_starts w))
