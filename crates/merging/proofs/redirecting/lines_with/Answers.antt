use Rattle.stored_lines.specs.Tree.{relabel}
use Rattle.archive_state.specs.Merging as merging
use Rattle.merging.proofs.Lists.{mapped_more}
use Rattle.merging.proofs.redirecting.lines_with.Goals as goal

pub lines-preserved : goal.lines-preserved
lines-preserved c = mapped_more (relabel (merging.line_with (merging.renamed c.args.keep c.args.gone))) c.args.lines.now
    c.lines.line-index c.line-item.result
    c.lines.made.items c.push.new.self.items c.in_ok-line_with.field-0 c.lines-test.true c.line-item.is
    c.lines.invariant c.in_ok-line_with.ensures c.in_ok-push.ensures.items
