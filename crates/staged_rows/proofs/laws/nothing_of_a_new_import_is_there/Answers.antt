use Rattle.staged_rows.proofs.Fresh.{fresh}
use Rattle.staged_rows.proofs.laws.nothing_of_a_new_import_is_there.Goals as goal

pub returns : goal.returns
returns c = fresh
