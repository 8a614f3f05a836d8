use Rattle.std.proofs.Common.{ap}
use Rattle.record_shapes.specs.Shapes.{event_place_lines}
use Rattle.node_writing.proofs.Appending.{nothing}
use Rattle.node_writing.proofs.events.push_event_place.Goals as goal

pub returns-in-None : goal.returns-in-None
returns-in-None g c = nothing (g.N.Named.names c.args.index.now) 2 _ _
    (ap (event_place_lines (g.N.Named.around c.args.index.now)) c.in-None.is)
