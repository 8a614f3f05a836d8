use Rattle.import_definitions.specs.Report.{said_of_lines}
use Rattle.imports.proofs.Parts.{two_parts}
use Rattle.imports.proofs.reading.drafts_in.Goals as goal

pub returns-clause-report : goal.returns-clause-report
returns-clause-report c =
    two_parts c.args.report.now.items (said_of_lines c.args.roots.now) c.sides_of.new.report.items
    c.drafts_of.new.report.items (c.what_is_said_is_what_an_import_reports.ensures c.args.roots.now)
    c.in_ok-sides.ensures.report c.in_ok-drafts.ensures.report
