use Rattle.gedcom_tree.proofs.Stays.{stays_decided}
use Rattle.gedcom_tree.proofs.laws.a_decided_fault_stays.Goals as goal

pub returns : goal.returns
returns c = stays_decided
