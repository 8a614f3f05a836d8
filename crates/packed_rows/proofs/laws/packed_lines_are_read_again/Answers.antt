use Rattle.packed_rows.proofs.OneText.{read_again}
use Rattle.packed_rows.proofs.laws.packed_lines_are_read_again.Goals as goal

pub returns : goal.returns
returns c = read_again
