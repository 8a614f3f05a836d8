-- The bytes of the characters of a code page.
use Rattle.std.proofs.Common.{
  ◌≡◌,
  ◌∙◌,
  ◌+◌,
  ◌-◌,
  ◌<◌,
  ◌≤◌,
  ◌==◌,
  ◌&&◌,
  ◌||◌,
  ◌∷◌,
  [],
  Bool,
  List,
  ap,
  arith,
  eq-eqb,
  eqb,
  eqb-true,
  false,
  get_or,
  if◌then◌else◌,
  length,
  nat_le,
  nat_lt,
  not,
  refl,
  slice_index_or,
  subst,
  suc,
  sym,
  true,
  zero,
  ℕ,
}
use Rattle.std.proofs.lemmas.Bool.Decides.{nat_tests}
use Rattle.character_sets.specs.CodePages.{character}
use Rattle.character_sets.specs.Again.{IsReadAgain, byte_of, place_of}

-- no character of the list is this one
abbrev lacks : ℕ → List ℕ → Bool
lacks x [] = true
lacks x (y ∷ ys) = not (x == y) && lacks x ys

-- each character but U+FFFD is there once, and none is ASCII
abbrev pub is_table : List ℕ → Bool
is_table [] = true
is_table (x ∷ xs) = nat_le 128 x && ((x == 0xFFFD || lacks x xs) && is_table xs)

both : (a b : Bool) → (a && b) ≡ true → (a ≡ true) × (b ≡ true)
both true b e = (refl, e)
both false b e = absurd cc

is_lacking : (x : ℕ) (xs : List ℕ) (i : ℕ) → lacks x xs ≡ true → i < length xs → x ≡ get_or xs i 0xFFFD → ⊥
is_lacking x [] i l h e = absurd (omega (arith, h))
is_lacking x (y ∷ ys) zero l h e =
    let off = (both (not (x == y)) (lacks x ys) l).0 in
    let on : (x == y) ≡ true = eq-eqb x y e in
    let bad : not true ≡ true = subst (λ b. not b ≡ true) on off in absurd cc
is_lacking x (y ∷ ys) (suc i) l h e =
    is_lacking x ys i (both (not (x == y)) (lacks x ys) l).1 (omega (arith, h)) e

is_other : (x : ℕ) (xs : List ℕ) (i : ℕ) → (x == 0xFFFD || lacks x xs) ≡ true → i < length xs
    → (get_or xs i 0xFFFD ≡ 0xFFFD → ⊥) → x ≡ get_or xs i 0xFFFD → ⊥
is_other x xs i l h some e =
    elim (eqb x 0xFFFD) as (λ b. eqb x 0xFFFD ≡ b → (b || lacks x xs) ≡ true → ⊥) [
      | true ↦ λ is t. some (sym e ∙ eqb-true x 0xFFFD is)
      | false ↦ λ is t. is_lacking x xs i t h e
    ] refl l

placed : (xs : List ℕ) (i : ℕ) → is_table xs ≡ true → i < length xs → (get_or xs i 0xFFFD ≡ 0xFFFD → ⊥)
    → place_of xs (get_or xs i 0xFFFD) ≡ i
placed [] i t h some = absurd (omega (arith, h))
placed (x ∷ xs) zero t h some = ap (λ (b : Bool). if b then 0 else suc (place_of xs x)) (eq-eqb x x refl)
placed (x ∷ xs) (suc i) t h some =
    let rest = (both (nat_le 128 x) ((x == 0xFFFD || lacks x xs) && is_table xs) t).1 in
    let parts = both (x == 0xFFFD || lacks x xs) (is_table xs) rest in
    let c = get_or xs i 0xFFFD in
    let off : (x == c) ≡ false = elim (eqb x c) as (λ b. eqb x c ≡ b → eqb x c ≡ false) [
      | true ↦ λ is. absurd (is_other x xs i parts.0 (omega (arith, h)) some (eqb-true x c is))
      | false ↦ λ is. is
    ] refl in
    ap (λ (b : Bool). if b then 0 else suc (place_of xs c)) off
    ∙ ap (λ n. suc n) (placed xs i parts.1 (omega (arith, h)) some)

-- a character of a table is not ASCII
is_high : (xs : List ℕ) (i : ℕ) → is_table xs ≡ true → 128 ≤ get_or xs i 0xFFFD
is_high [] i t = omega arith
is_high (x ∷ xs) zero t =
    let high = (both (nat_le 128 x) ((x == 0xFFFD || lacks x xs) && is_table xs) t).0 in grind (arith, nat_tests)
is_high (x ∷ xs) (suc i) t =
    let rest = (both (nat_le 128 x) ((x == 0xFFFD || lacks x xs) && is_table xs) t).1 in
    is_high xs i (both (x == 0xFFFD || lacks x xs) (is_table xs) rest).1

is_less : (u n : ℕ) → u < n → nat_lt u n ≡ true
is_less u n h = grind (arith, nat_tests)

is_not_less : (u n : ℕ) → n ≤ u → nat_lt u n ≡ false
is_not_less u n h = grind (arith, nat_tests)

low_again : (xs : List ℕ) (b : ℕ) → b < 128 → byte_of xs (character xs b) ≡ b
low_again xs b h =
    let same : character xs b ≡ b =
    ap (λ (t : Bool). if t then b else slice_index_or xs (b - 128) 0xFFFD) (is_less b 128 h) in
    ap (byte_of xs) same ∙ ap (λ (t : Bool). if t then b else 128 + place_of xs b) (is_less b 128 h)

high_again : (xs : List ℕ) (b : ℕ) → is_table xs ≡ true → length xs ≡ 128 → 128 ≤ b → b < 256
    → (character xs b ≡ 0xFFFD → ⊥) → byte_of xs (character xs b) ≡ b
high_again xs b t n low high some =
    let c = get_or xs (b - 128) 0xFFFD in
    let same : character xs b ≡ c = ap (λ (u : Bool). if u then b else c) (is_not_less b 128 low) in
    let there : b - 128 < length xs = omega (arith, low, high, n) in
    let place : place_of xs c ≡ b - 128 = placed xs (b - 128) t there (λ e. some (same ∙ e)) in
    ap (byte_of xs) same
    ∙ (ap (λ (u : Bool). if u then c else 128 + place_of xs c) (is_not_less c 128 (is_high xs (b - 128) t))
    ∙ (ap (λ p. 128 + p) place ∙ omega (arith, low)))

pub again : (xs : List ℕ) → is_table xs ≡ true → length xs ≡ 128 → IsReadAgain xs
again xs t n b h some = elim (nat_lt b 128) as (λ v. nat_lt b 128 ≡ v → byte_of xs (character xs b) ≡ b) [
  | true ↦ λ is. low_again xs b (grind (arith, nat_tests))
  | false ↦ λ is. high_again xs b t n (grind (arith, nat_tests)) h some
] refl
