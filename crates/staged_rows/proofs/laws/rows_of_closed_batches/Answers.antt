use Rattle.staged_rows.proofs.Fresh.{all_of_closed}
use Rattle.staged_rows.proofs.laws.rows_of_closed_batches.Goals as goal

pub returns : goal.returns
returns c = all_of_closed
