use Rattle.std.proofs.Common.{◌≡◌}
use Rattle.std.specs.Vec.Iter.{into_iter_items}
use Rattle.record_shapes.specs.Reading.{citation_from}
use Rattle.node_reading.specs.Partly.{citation_with}
use Rattle.node_reading.proofs.sources.citation_of.Given as goal

abbrev pub invariant-lines : goal.invariant-lines
invariant-lines l = citation_with l.citation (into_iter_items l.below-iterator) ≡ citation_from l.fn.line
