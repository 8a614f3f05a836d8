use Rattle.store_rows.proofs.SpansAside.{sought_kept}
use Rattle.store_rows.proofs.laws.written_rows_of_what_is_looked_for_are_those_of_the_records.Goals as goal

pub returns : goal.returns
returns c = sought_kept
