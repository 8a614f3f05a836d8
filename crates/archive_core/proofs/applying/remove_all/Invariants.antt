use Rattle.std.proofs.Common.{◌≡◌, drop}
use Rattle.archive_state.specs.Applied.{without}
use Rattle.archive_core.proofs.applying.remove_all.Given as goal

abbrev pub invariant-numbers : goal.invariant-numbers
invariant-numbers l = record l.state { records = without l.state.records (drop l.number-index l.numbers) }
    ≡ record l.fn.state { records = without l.fn.state.records l.numbers }
