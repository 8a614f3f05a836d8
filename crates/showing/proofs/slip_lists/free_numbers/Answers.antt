use Rattle.std.proofs.Common.{◌+◌}
use Rattle.std.specs.Prelude.{not}
use Rattle.std.specs.BTreeSet as set
use Rattle.std.specs.Ordering.{nat_cmp}
use Rattle.showing.proofs.Unused.{next_free}
use Rattle.showing.proofs.slip_lists.free_numbers.Goals as goal

pub numbers-preserved : goal.numbers-preserved
numbers-preserved c = next_free (λ n. not (set.contains nat_cmp c.in_ok-taken.taken n)) (c.args.after + 1)
    c.numbers.before c.numbers.found.items c.push_free.new.found.items c.in_ok-push_free.ensures c.numbers.invariant
