use Rattle.import_numbers.proofs.Finished.{is_finished}
use Rattle.import_numbers.proofs.laws.a_finished_record_is_that_of_the_batch.Goals as goal

pub returns : goal.returns
returns c = is_finished
