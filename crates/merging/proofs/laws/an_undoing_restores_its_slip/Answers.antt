use Rattle.merging.proofs.Restoring.{restored}
use Rattle.merging.proofs.laws.an_undoing_restores_its_slip.Goals as goal

pub returns : goal.returns
returns _ c after n a sound e = restored c after n a sound e
