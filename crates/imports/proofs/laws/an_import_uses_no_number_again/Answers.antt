use Rattle.imports.proofs.Commands.{import_again}
use Rattle.imports.proofs.laws.an_import_uses_no_number_again.Goals as goal

pub returns : goal.returns
returns _ c after f a e = import_again c after f a e
