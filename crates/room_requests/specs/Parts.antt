-- The parts of a head that an answer depends on.
use Rattle.std.specs.Prelude.{ℕ, List}

-- the method, the target, the minor version, how many header lines are named Host, and the value of the first of them
pub record Head : Type 0 where
  pub method : List ℕ
  pub target : List ℕ
  pub minor : ℕ
  pub hosts : ℕ
  pub host : List ℕ
