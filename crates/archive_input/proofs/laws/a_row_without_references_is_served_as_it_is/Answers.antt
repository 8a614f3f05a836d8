use Rattle.archive_input.proofs.Asked.{as_it_is}
use Rattle.archive_input.proofs.laws.a_row_without_references_is_served_as_it_is.Goals as goal

pub returns : goal.returns
returns c = as_it_is
