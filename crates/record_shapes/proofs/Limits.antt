-- The limits of a path, and of levels.
use Rattle.std.proofs.Common.{arith, ℕ, [], List, ◌≡◌, true, nat_le, length}
use Rattle.std.proofs.lemmas.Bool.Decides.{nat_tests, Decides-and}
use Rattle.std.specs.Bool.{Decides}
use Rattle.record_shapes.specs.Levels.{AreWithin}
use Rattle.record_shapes.specs.Paths.{is_within_limits, IsWithinLimits, parts}

pub none_within : (n : ℕ) → AreWithin n []
none_within n = omega arith

pub limits_are : (path : List ℕ) → is_within_limits path ≡ true → IsWithinLimits path
unfolding is_within_limits
limits_are path e = grind (arith, nat_tests)

pub limits : (path : List ℕ) → Decides (is_within_limits path) (IsWithinLimits path)
unfolding is_within_limits
limits path = Decides-and (nat_le (length (parts path)) 32) (nat_le (length path) 4096)
    (λ h. grind (arith, nat_tests), λ h. grind (arith, nat_tests))
    (λ h. grind (arith, nat_tests), λ h. grind (arith, nat_tests))
