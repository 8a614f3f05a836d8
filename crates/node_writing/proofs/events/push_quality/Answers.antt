use Rattle.std.proofs.Common.{ap, codes, option_map}
use Rattle.record_fields.specs.Words.{quality_word}
use Rattle.record_shapes.specs.Shapes.{text_lines}
use Rattle.node_writing.proofs.Appending.{nothing}
use Rattle.node_writing.proofs.events.push_quality.Goals as goal

pub returns-in-None : goal.returns-in-None
returns-in-None g c = nothing (g.N.Named.names c.args.index.now) c.args.level _ _
    (ap (λ q. text_lines (codes "QUAY") (option_map quality_word q)) c.in-None.is)
