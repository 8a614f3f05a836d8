use Rattle.std.proofs.Common.{◌≡◌}
use Rattle.std.specs.Vec.Iter.{into_iter_items}
use Rattle.record_shapes.specs.Reading.{repo_from}
use Rattle.node_reading.specs.Partly.{repo_with}
use Rattle.node_reading.proofs.sources.repo_of.Given as goal

abbrev pub invariant-lines : goal.invariant-lines
invariant-lines l = repo_with l.repo (into_iter_items l.line-iterator) ≡ repo_from l.fn.lines.items
