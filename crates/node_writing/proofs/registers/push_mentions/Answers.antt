use Rattle.record_shapes.specs.Shapes.{mention_line}
use Rattle.node_writing.proofs.Appending.{all_written, then_next}
use Rattle.node_writing.proofs.registers.push_mentions.Goals as goal

pub mentions-preserved : goal.mentions-preserved
mentions-preserved g c = then_next (g.N.Named.names c.args.index.now) 1 mention_line c.args.mentions.now
    c.mentions.mention-index c.mention-item.result _ _ _
    c.mentions-test.true c.mention-item.is c.in_ok-push_mention.ensures c.mentions.invariant

pub returns : goal.returns
returns g c = all_written (g.N.Named.names c.args.index.now) 1 mention_line c.args.mentions.now c.mentions.mention-index
    _ _ c.mentions-test.false
    c.mentions.invariant
