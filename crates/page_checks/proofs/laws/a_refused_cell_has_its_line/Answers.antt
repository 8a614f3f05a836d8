use Rattle.page_checks.proofs.Refused.{refused_has}
use Rattle.page_checks.proofs.laws.a_refused_cell_has_its_line.Goals as goal

pub returns : goal.returns
returns c = refused_has
