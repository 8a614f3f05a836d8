use Rattle.std.proofs.Common.{inl}
use Rattle.archive_input.proofs.importing.import_reported.Goals as goal

pub returns-in-Err-clause-refused : goal.returns-in-Err-clause-refused
returns-in-Err-clause-refused g c = inl c.in-Err.ensures.steps
