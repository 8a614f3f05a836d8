use Rattle.staged_rows.proofs.Fresh.{none_have}
use Rattle.staged_rows.proofs.laws.numbers_of_an_import_have_no_record.Goals as goal

pub returns : goal.returns
returns c = none_have
