use Rattle.std.proofs.Common.{ℕ, ◌≡◌, take}
use Rattle.std.specs.BTreeSet as set
use Rattle.std.specs.Ordering.{nat_cmp}
use Rattle.store_rows.specs.Meaning.{is_closed}
use Rattle.store_rows.proofs.grouping.closed_batches.Given as goal

abbrev pub invariant-batches : goal.invariant-batches
invariant-batches l = (n : ℕ) → set.contains nat_cmp l.closed n ≡ is_closed n (take l.batch-index l.batches)
