use Rattle.std.proofs.Common.{◌≡◌}
use Rattle.std.specs.Vec.Iter.{into_iter_items}
use Rattle.record_shapes.specs.Reading.{source_from}
use Rattle.node_reading.specs.Partly.{source_with}
use Rattle.node_reading.proofs.sources.source_of.Given as goal

abbrev pub invariant-lines : goal.invariant-lines
invariant-lines g l = source_with (g.K.Known.known l.known) l.source (into_iter_items l.line-iterator)
    ≡ source_from (g.K.Known.known l.known) l.fn.lines.items
