use Rattle.list_rows.proofs.Guarded.{no_formula}
use Rattle.list_rows.proofs.laws.no_cell_begins_a_formula.Goals as goal

pub returns : goal.returns
returns c text = no_formula text
