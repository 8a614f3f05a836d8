-- What contracts see of the code's maps and sets.
use Rattle.std.specs.Prelude.{ℕ, Bool, List, Option, Some, None}
use Rattle.std.specs.BTreeMap as tree
use Rattle.std.specs.BTreeMap.{BTreeMap}
use Rattle.std.specs.BTreeSet as sorted
use Rattle.std.specs.BTreeSet.{BTreeSet}
use Rattle.std.specs.List.{slice_get}
use Rattle.std.specs.Ordering.{nat_cmp}

-- how a person is named
abbrev pub member_at : BTreeMap ℕ Bool → ℕ → Option Bool
member_at m n = tree.get nat_cmp m n

abbrev pub member_by : Option (BTreeMap ℕ Bool) → ℕ → Option Bool
member_by None n = None
member_by (Some m) n = member_at m n

-- by the node at a position
abbrev pub member_in : List (BTreeMap ℕ Bool) → ℕ → ℕ → Option Bool
member_in ms k n = member_by (slice_get ms k) n

abbrev pub taken_at : BTreeSet ℕ → ℕ → Bool
taken_at s k = sorted.contains nat_cmp s k
