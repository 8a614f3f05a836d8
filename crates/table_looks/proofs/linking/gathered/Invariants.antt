use Rattle.std.proofs.Common.{ℕ, ◌≡◌}
use Rattle.std.specs.BTreeSet as set
use Rattle.store_rows.specs.Links.{has_link}
use Rattle.table_looks.specs.Linking.{pair_order}
use Rattle.table_looks.proofs.linking.gathered.Given as goal

abbrev pub invariant-rows : goal.invariant-rows
invariant-rows l = (target n : ℕ) → set.contains pair_order l.links (target, n) ≡ has_link target n l.yielded
