use Rattle.archive_state.proofs.Keyed.{entry_once}
use Rattle.archive_state.proofs.keys.is_entry_of.Goals as goal

pub returns-in-Entry : goal.returns-in-Entry
returns-in-Entry c = entry_once _ _ _ _ _ c.in-Entry.entry c.has_key.result c.in-Entry.is c.has_key.ensures
