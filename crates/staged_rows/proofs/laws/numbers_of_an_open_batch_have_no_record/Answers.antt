use Rattle.staged_rows.proofs.Taken.{numbers_unrecorded}
use Rattle.staged_rows.proofs.laws.numbers_of_an_open_batch_have_no_record.Goals as goal

pub returns : goal.returns
returns c = numbers_unrecorded
