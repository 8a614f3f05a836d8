use Rattle.std.proofs.Common.{ap}
use Rattle.record_shapes.specs.Shapes.{link_lines}
use Rattle.node_writing.proofs.Appending.{nothing}
use Rattle.node_writing.proofs.registers.push_link.Goals as goal

pub returns-in-None : goal.returns-in-None
returns-in-None g c = nothing (g.N.Named.names c.args.index.now) 2 _ _ (ap (link_lines) c.in-None.is)
