-- Lists that the code takes apart.
use Rattle.std.proofs.Common.{
  ◌≡◌,
  ◌∙◌,
  ◌+◌,
  ◌*◌,
  ◌<◌,
  ◌≤◌,
  ◌==◌,
  ◌∷◌,
  [],
  Bool,
  List,
  ap,
  arith,
  drop,
  get_or,
  if◌then◌else◌,
  length,
  nat_eq,
  refl,
  ℕ,
}
use Rattle.character_sets.specs.Sets.{wide_units}

pub same_test : (a b x y : ℕ) → a ≡ x → b ≡ y → nat_eq a b ≡ (x == y)
same_test a b x y e h = ap (λ z. nat_eq z b) e ∙ ap (λ z. nat_eq x z) h

-- of two units at least, the first two are one unit of UTF-16
pub wide_step : (low_first : Bool) (xs : List ℕ) → 2 ≤ length xs
    → wide_units low_first xs ≡ (if low_first then get_or xs 0 0 + 256 * get_or xs 1 0
    else 256 * get_or xs 0 0 + get_or xs 1 0) ∷ wide_units low_first (drop 2 xs)
wide_step low_first [] h = absurd (omega (arith, h))
wide_step low_first (a ∷ []) h = absurd (omega (arith, h))
wide_step low_first (a ∷ b ∷ more) h = refl

pub wide_end : (low_first : Bool) (xs : List ℕ) → length xs < 2 → wide_units low_first xs ≡ []
wide_end low_first [] h = refl
wide_end low_first (a ∷ []) h = refl
wide_end low_first (a ∷ b ∷ more) h = absurd (omega (arith, h))
