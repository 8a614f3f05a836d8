use Rattle.gedcom_rules.specs.Views.{fault_view}
use Rattle.archive_input.proofs.importing.read_file.Goals as goal

pub returns-in-Ok-clause-read : goal.returns-in-Ok-clause-read
returns-in-Ok-clause-read g c = (c.in-Ok.ensures.forest, c.in-Ok.ensures.read)

pub returns-in-Err-clause-refused : goal.returns-in-Err-clause-refused
returns-in-Err-clause-refused g c = (fault_view c.in-Err.fault, c.refusal_of.ensures, c.in-Err.ensures.fault)
