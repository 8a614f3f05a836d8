use Rattle.node_writing.proofs.Appending.{lines_written, then_line}
use Rattle.node_writing.proofs.lines.push_carried.Goals as goal

pub lines-preserved : goal.lines-preserved
lines-preserved g c = then_line (g.N.Named.names c.args.index.now) c.args.level c.args.lines.now c.lines.line-index
    c.line-item.result _ _ _ c.lines-test.true c.line-item.is c.in_ok-push_line.ensures c.lines.invariant

pub returns : goal.returns
returns g c = lines_written (g.N.Named.names c.args.index.now) c.args.level c.args.lines.now c.lines.line-index _ _
    c.lines-test.false c.lines.invariant
