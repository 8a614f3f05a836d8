use Rattle.store_rows.proofs.Found.{key_seen, no_key_seen}
use Rattle.store_rows.proofs.finding.is_entry_found.Goals as goal

pub returns-in-Some : goal.returns-in-Some
returns-in-Some c = key_seen _ _ _ _ c.in-Some.is c.is_entry_of.ensures

pub returns-in-None : goal.returns-in-None
returns-in-None c = no_key_seen _ _ _ _ c.in-None.is
