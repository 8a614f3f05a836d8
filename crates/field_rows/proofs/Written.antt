-- A part that is not empty has a byte that is neither comma nor space.
use Rattle.std.proofs.Common.{
  ◌≡◌,
  ℕ,
  ◌<◌,
  List,
  [],
  ◌∷◌,
  ◌++◌,
  length,
  Bool,
  true,
  false,
  ◌==◌,
  cond,
  refl,
  sym,
  ap,
  ◌∙◌,
  arith,
}
use Rattle.std.specs.Prelude.{if◌then◌else◌, ◌||◌, ◌&&◌, not, nat_lt}
use Rattle.std.specs.List.{list_any, onto_first}
use Rattle.std.proofs.lemmas.Bool.Decides.{nat_tests}
use Rattle.record_shapes.specs.Paths.{from_word, backwards, trimmed, parts, has_part}
use Rattle.field_rows.specs.Cuts.{is_written}
use Rattle.record_shapes.proofs.Trimmed.{length_backwards}
use Rattle.list_laws.proofs.Booleans.{or_assoc}
use Rattle.record_shapes.proofs.PathTexts.{parts_some}

-- the part is not empty, freed of spaces
abbrev is_some_part : List ℕ → Bool
is_some_part p = nat_lt 0 (length (trimmed p))

positive : (n : ℕ) → 0 < n → nat_lt 0 n ≡ true
positive n h = grind (arith, nat_tests)

-- a last byte that is no space stays
stays : (zs : List ℕ) (y : ℕ) → (y == 32) ≡ false → 0 < length (from_word (zs ++ (y ∷ [])))
stays [] y e = ap-less (if y == 32 then [] else y ∷ []) (ap (λ b. if b then [] else y ∷ []) e)
  where
    ap-less : (l : List ℕ) → l ≡ y ∷ [] → 0 < length l
    ap-less l is = let long : length l ≡ 1 = ap length is in omega arith
stays (z ∷ zs) y e = elim
    (z == 32) as (λ b. 0 < length (if b then from_word (zs ++ (y ∷ [])) else z ∷ (zs ++ (y ∷ [])))) [
      | true ↦ stays zs y e
      | false ↦ omega arith
    ]

-- a text that begins with no space
begun : (x : ℕ) (xs : List ℕ) → (x == 32) ≡ false
    → 0 < length (backwards (from_word (backwards (x ∷ xs))))
begun x xs e =
    let same : length (backwards (from_word (backwards (x ∷ xs)))) ≡ length (from_word (backwards (x ∷ xs)))
    = length_backwards (from_word (backwards (x ∷ xs))) in
    let there : 0 < length (from_word (backwards (x ∷ xs))) = stays (backwards xs) x e in
    omega arith

part_of : (x : ℕ) (xs : List ℕ) → is_some_part (x ∷ xs) ≡ (not (x == 32) || is_some_part xs)
part_of x xs = elim (x == 32) as (λ b. (x == 32) ≡ b
    → nat_lt 0 (length (backwards (from_word (backwards (if b then from_word xs else x ∷ xs)))))
    ≡ (not b || is_some_part xs)) [
      | true ↦ λ e. refl
      | false ↦ λ e. positive (length (backwards (from_word (backwards (x ∷ xs))))) (begun x xs e)
    ] refl

some_part : (ps : List (List ℕ)) (y : List ℕ) (ys : List (List ℕ)) (x : ℕ) → ps ≡ y ∷ ys
    → list_any is_some_part (onto_first x ps) ≡ (not (x == 32) || list_any is_some_part ps)
some_part ps y ys x e =
    ap (λ l. list_any is_some_part (onto_first x l)) e
    ∙ ap (λ b. b || list_any is_some_part ys) (part_of x y)
    ∙ sym (or_assoc (not (x == 32)) (is_some_part y) (list_any is_some_part ys))
    ∙ ap (λ l. not (x == 32) || list_any is_some_part l) (sym e)

parts_any : (t : List ℕ) → list_any is_some_part (parts t) ≡ list_any is_written t
parts_any [] = refl
parts_any (x ∷ xs) =
    let s = parts_some xs in
    elim (x == 44) as (λ b. list_any is_some_part (cond b ([] ∷ parts xs) (onto_first x (parts xs)))
    ≡ ((not b && not (x == 32)) || list_any is_written xs)) [
      | true ↦ parts_any xs
      | false ↦ some_part (parts xs) s.0 s.1 x s.2 ∙ ap (λ b. not (x == 32) || b) (parts_any xs)
    ]

pub has_part_is : (t : List ℕ) → list_any is_written t ≡ has_part t
unfolding has_part
has_part_is t = sym (parts_any t)
