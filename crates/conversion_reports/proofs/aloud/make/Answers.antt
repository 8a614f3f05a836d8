use Rattle.conversion_reports.proofs.Making.{is_made, is_refused}
use Rattle.conversion_reports.proofs.aloud.make.Goals as goal

pub returns-in-Err-text_of_units-clause-error : goal.returns-in-Err-text_of_units-clause-error
returns-in-Err-text_of_units-clause-error c = is_refused c.args.asked c.args.bytes.now c.in_ok-report.told.items _ _
    c.in-Ok.found c.in-Err-text_of_units.error c.in_ok-found.ensures c.in-Ok.is c.in_ok-report.ensures.told
    c.deref.ensures.value c.in-Err-text_of_units.ensures.error

pub returns-in-Ok-text_of_units-clause-made : goal.returns-in-Ok-text_of_units-clause-made
returns-in-Ok-text_of_units-clause-made c = is_made c.args.asked c.args.bytes.now c.in_ok-report.told.items _ _ _ _
    c.in-Ok.found c.in_ok-found.ensures c.in-Ok.is c.in_ok-report.ensures.told c.deref.ensures.value
    c.in-Ok-text_of_units.ensures.text c.in-Ok-text_of_units.ensures.small c.in_ok-report.ensures.report
