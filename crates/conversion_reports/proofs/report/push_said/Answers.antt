use Rattle.conversion_reports.proofs.Pieces.{said_is}
use Rattle.conversion_reports.proofs.report.push_said.Goals as goal

pub returns : goal.returns
returns c = said_is c.args.set c.args.named _ c.args.changed.now c.args.units.now c.args.told.now _ _ _
    c.is_added-is_added.ensures c.in_ok-push_changed.ensures c.in_ok-push_written.ensures
