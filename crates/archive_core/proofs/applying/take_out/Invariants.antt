use Rattle.std.proofs.Common.{◌≡◌, length}
use Rattle.archive_state.specs.Applied.{without}
use Rattle.archive_core.proofs.applying.take_out.Given as goal

abbrev pub invariant-numbers : goal.invariant-numbers
invariant-numbers l = record l.state { records = without l.state.records l.numbers.items }
    ≡ record l.fn.state { records = without l.fn.state.records l.fn.numbers.items }

abbrev pub decreases-numbers : goal.decreases-numbers
decreases-numbers l = length l.numbers.items
