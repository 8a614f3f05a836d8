-- Entries under numbers, as a finite map.
use Rattle.std.specs.Prelude.{ℕ, List}
use Rattle.std.specs.FinMap.{FinMap, from_entries}
use Rattle.std.specs.Ordering.{nat_cmp}

abbrev pub keyed : {X : Type 0} → List (ℕ × X) → FinMap nat_cmp X
keyed es = from_entries es
