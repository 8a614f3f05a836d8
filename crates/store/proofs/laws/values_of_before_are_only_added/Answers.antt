use Rattle.store.proofs.Overwritten.{run_adds}
use Rattle.store.proofs.Committed.{together}
use Rattle.store.proofs.Steps.{acknowledged_before}
use Rattle.store.proofs.Histories.{performs_then}
use Rattle.store.proofs.Closed.{changed_closed}
use Rattle.store.proofs.laws.values_of_before_are_only_added.Goals as goal

pub returns : goal.returns
returns c = run_adds
