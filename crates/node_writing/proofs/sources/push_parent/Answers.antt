use Rattle.std.proofs.Common.{ap}
use Rattle.record_shapes.specs.Shapes.{loc_lines}
use Rattle.node_writing.proofs.Appending.{nothing}
use Rattle.node_writing.proofs.sources.push_parent.Goals as goal

pub returns-in-None : goal.returns-in-None
returns-in-None g c = nothing (g.N.Named.names c.args.index.now) 1 _ _ (ap (loc_lines) c.in-None.is)
