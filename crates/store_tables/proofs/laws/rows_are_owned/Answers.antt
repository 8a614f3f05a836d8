use Rattle.store_tables.proofs.Owning.{owned}
use Rattle.store_tables.proofs.laws.rows_are_owned.Goals as goal

pub returns : goal.returns
returns c = owned
