use Rattle.list_rows.proofs.Again.{read_again}
use Rattle.list_rows.proofs.laws.rows_read_as_their_cells.Goals as goal

pub returns : goal.returns
returns c found = read_again found
