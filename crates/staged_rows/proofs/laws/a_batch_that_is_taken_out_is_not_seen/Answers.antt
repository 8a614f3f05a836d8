use Rattle.staged_rows.proofs.Taken.{taken_out}
use Rattle.staged_rows.proofs.laws.a_batch_that_is_taken_out_is_not_seen.Goals as goal

pub returns : goal.returns
returns c = taken_out
