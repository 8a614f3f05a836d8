use Rattle.std.specs.Prelude.{string_bytes}
use Rattle.import_reports.proofs.Foreseen.{unreported_of}
use Rattle.import_reports.proofs.reports.report_with.Goals as goal

pub returns-in-Err-clause-text : goal.returns-in-Err-clause-text
returns-in-Err-clause-text c =
    unreported_of string_bytes c.args.forest.now c.args.numbers.now c.in-Err.why c.none_for.result c.none_for.ensures
    c.in-Err.ensures.untold
