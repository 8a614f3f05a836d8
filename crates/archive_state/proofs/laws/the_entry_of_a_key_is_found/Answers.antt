use Rattle.archive_state.proofs.Keyed.{entry_found}
use Rattle.archive_state.proofs.laws.the_entry_of_a_key_is_found.Goals as goal

pub returns : goal.returns
returns c = entry_found
