-- What is left to be found.
use Rattle.std.specs.Prelude.{ℕ, List, Bool, true, false}
use Rattle.merging.specs.Merges.{with_number}

-- with the number, where it is not in yet
abbrev pub rest_of : Bool → ℕ → List ℕ → List ℕ
rest_of true n xs = xs
rest_of false n xs = with_number n xs
