use Rattle.std.proofs.Common.{arith, sym, ◌∙◌}
use Rattle.gedcom_line.specs.Split.{is_good_cut}
use Rattle.gedcom_line.proofs.Counts.{greatest_no}
use Rattle.gedcom_line.proofs.splitting.last_good_cut.Goals as goal

pub loop-at-preserved : goal.loop-at-preserved
loop-at-preserved c = (
  omega arith,
  sym (greatest_no (is_good_cut c.args.segment.now) c.loop-at.at c.loop-at-test.true
      (sym c.is_good_cut.ensures ∙ c.if-is_good_cut.false)) ∙ c.loop-at.invariant.1,
)
