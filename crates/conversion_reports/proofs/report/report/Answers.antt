use Rattle.std.proofs.Common.{◌∙◌}
use Rattle.conversion_reports.proofs.Pieces.{report_is}
use Rattle.conversion_reports.proofs.report.report.Goals as goal

pub returns-clause-report : goal.returns-clause-report
returns-clause-report c = report_is c.args.set c.args.why _ c.args.bytes.now _ _ _ _
    c.in_ok-units.ensures.left_out (c.deref.ensures.value ∙ c.in_ok-units.ensures.units) c.new-out.ensures.items
    c.in_ok-push_set.ensures c.in_ok-told.ensures.report
