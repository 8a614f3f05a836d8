use Rattle.std.proofs.Common.{◌≡◌}
use Rattle.std.specs.Vec.Iter.{into_iter_items}
use Rattle.record_shapes.specs.Reading.{holding_from}
use Rattle.node_reading.specs.Partly.{holding_with}
use Rattle.node_reading.proofs.sources.holding_of.Given as goal

abbrev pub invariant-lines : goal.invariant-lines
invariant-lines l = holding_with l.holding (into_iter_items l.below-iterator) ≡ holding_from l.fn.line
