use Rattle.std.proofs.Common.{arith, sym, ◌∙◌}
use Rattle.gedcom_line.specs.Split.{may_cut}
use Rattle.gedcom_line.proofs.Counts.{greatest_no}
use Rattle.gedcom_line.proofs.splitting.last_cut.Goals as goal

pub loop-at-preserved : goal.loop-at-preserved
loop-at-preserved c = (
  omega arith,
  sym (greatest_no (may_cut c.args.segment.now) c.loop-at.at c.loop-at-test.true
      (sym c.may_cut.ensures ∙ c.if-may_cut.false)) ∙ c.loop-at.invariant.1,
)
