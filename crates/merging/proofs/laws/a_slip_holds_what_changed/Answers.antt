use Rattle.merging.proofs.Restoring.{slip_holds}
use Rattle.merging.proofs.laws.a_slip_holds_what_changed.Goals as goal

pub returns : goal.returns
returns _ c after keep gone a sound e = slip_holds c after keep gone a sound e
