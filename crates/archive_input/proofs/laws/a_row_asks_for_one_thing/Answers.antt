use Rattle.archive_input.proofs.One.{one_thing}
use Rattle.archive_input.proofs.laws.a_row_asks_for_one_thing.Goals as goal

pub returns : goal.returns
returns c = one_thing
