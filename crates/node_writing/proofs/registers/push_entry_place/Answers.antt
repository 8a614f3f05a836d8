use Rattle.std.proofs.Common.{ap}
use Rattle.record_shapes.specs.Shapes.{entry_place_lines}
use Rattle.node_writing.proofs.Appending.{nothing}
use Rattle.node_writing.proofs.registers.push_entry_place.Goals as goal

pub returns-in-None : goal.returns-in-None
returns-in-None g c = nothing (g.N.Named.names c.args.index.now) 1 _ _
    (ap (entry_place_lines (g.N.Named.around c.args.index.now)) c.in-None.is)
