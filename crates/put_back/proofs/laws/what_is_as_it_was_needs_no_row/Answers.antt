use Rattle.put_back.proofs.Same.{nothing_back}
use Rattle.put_back.proofs.laws.what_is_as_it_was_needs_no_row.Goals as goal

pub returns : goal.returns
returns c = nothing_back
