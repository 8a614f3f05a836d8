use Rattle.std.proofs.Common.{ℕ, ◌≡◌}
use Rattle.std.specs.BTreeMap as tree
use Rattle.std.specs.Ordering.{nat_cmp}
use Rattle.table_looks.specs.Seeking.{soughts_in}
use Rattle.table_looks.proofs.seeking.gathered.Given as goal

abbrev pub invariant-rows : goal.invariant-rows
invariant-rows l = (n : ℕ) → tree.get nat_cmp l.soughts n ≡ soughts_in l.yielded n
