use Rattle.archive_state.proofs.Keyed.{entry_alone}
use Rattle.archive_state.proofs.laws.a_key_has_one_entry.Goals as goal

pub returns : goal.returns
returns c = entry_alone
