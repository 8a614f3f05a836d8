use Rattle.archive_state.proofs.Stored.{lines_tell}
use Rattle.archive_state.proofs.laws.lines_have_the_numbers_that_a_record_names.Goals as goal

pub returns : goal.returns
returns c = lines_tell
