use Rattle.std.proofs.Common.{ap}
use Rattle.record_shapes.specs.Shapes.{text_lines}
use Rattle.node_writing.proofs.Appending.{nothing}
use Rattle.node_writing.proofs.lines.push_maybe.Goals as goal

pub returns-in-None : goal.returns-in-None
returns-in-None g c = nothing (g.N.Named.names c.args.index.now) c.args.level _ _
    (ap (text_lines c.args.tag.now) c.in-None.is)
