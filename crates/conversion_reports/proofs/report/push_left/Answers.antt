use Rattle.conversion_reports.proofs.Pieces.{left_is}
use Rattle.conversion_reports.proofs.report.push_left.Goals as goal

pub returns : goal.returns
returns c = left_is c.args.set c.args.left _ _ _ _ c.mark_count-marks.ensures c.in_ok-push_count.ensures
    c.in_ok-push_count-2.ensures
