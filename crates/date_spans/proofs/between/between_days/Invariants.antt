use Rattle.std.proofs.Common.{take}
use Rattle.date_spans.specs.Between.{IsBetween}
use Rattle.date_spans.proofs.Picked.{IsPicked}
use Rattle.date_spans.proofs.between.between_days.Given as goal

abbrev pub invariant-numbers : goal.invariant-numbers
invariant-numbers l = IsPicked (IsBetween l.state.records l.first l.last) (take l.number-index l.number-items)
    l.found.items
