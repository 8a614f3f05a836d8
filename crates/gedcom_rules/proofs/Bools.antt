-- Numbers compared.
use Rattle.std.proofs.Common.{◌≡◌, ℕ, ◌+◌, false, eqb, arith}

-- one more than a number is not 0
pub counted : (n : ℕ) → eqb (n + 1) 0 ≡ false
counted n = grind arith
