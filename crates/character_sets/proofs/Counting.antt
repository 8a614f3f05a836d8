-- The steps by which bytes that are no part of a character are counted.
use Rattle.std.proofs.Common.{
  ◌≡◌,
  ◌∙◌,
  ◌+◌,
  ◌-◌,
  ◌<◌,
  ◌≤◌,
  ◌∷◌,
  [],
  List,
  ap,
  arith,
  drop,
  length,
  length-drop,
  refl,
  suc,
  zero,
  sym,
  take,
  ℕ,
}
use Rattle.std.proofs.lemmas.List.{take_rest}
use Rattle.character_sets.specs.declared.utf8.Beginning.{Beginning}
use Rattle.character_sets.specs.declared.utf8.Beginning.TheVariants.{Whole, Partial, Stray}
use Rattle.character_sets.specs.Counts.{counted, strays}
use Rattle.character_sets.specs.Utf8.{IsWithin, front}

pub skipped : (n : ℕ) (xs : List ℕ) → strays n xs ≡ strays 0 (drop n xs)
skipped zero xs = refl
skipped (suc n) [] = refl
skipped (suc n) (x ∷ xs) = skipped n xs

less_one : (n : ℕ) → suc n - 1 ≡ n
less_one n = omega arith

pub whole_past : (xs : List ℕ) (c n : ℕ) → 0 < length xs → Whole c n ≡ front xs → IsWithin xs (Whole c n)
    → strays 0 xs ≡ strays 0 (take (length xs - n) (drop n xs))
whole_past [] c n h e w = absurd (omega (arith, h))
whole_past (x ∷ xs) c zero h e w = absurd (omega (arith, w.0))
whole_past (x ∷ xs) c (suc n) h e w = ap (λ b. counted (λ m. strays m xs) b) (sym e)
    ∙ (ap (λ m. strays m xs) (less_one n)
    ∙ (skipped n xs ∙ ap (λ r. strays 0 r) (sym (take_rest (x ∷ xs) (suc n)))))

pub partial_past : (xs : List ℕ) → 0 < length xs → Partial ≡ front xs
    → strays 0 xs ≡ suc (strays 0 (take (length xs - 1) (drop 1 xs)))
partial_past [] h e = absurd (omega (arith, h))
partial_past (x ∷ xs) h e = ap (λ b. counted (λ m. strays m xs) b) (sym e)
    ∙ ap (λ r. suc (strays 0 r)) (sym (take_rest (x ∷ xs) 1))

pub stray_past : (xs : List ℕ) → 0 < length xs → Stray ≡ front xs
    → strays 0 xs ≡ suc (strays 0 (take (length xs - 1) (drop 1 xs)))
stray_past [] h e = absurd (omega (arith, h))
stray_past (x ∷ xs) h e = ap (λ b. counted (λ m. strays m xs) b) (sym e)
    ∙ ap (λ r. suc (strays 0 r)) (sym (take_rest (x ∷ xs) 1))
