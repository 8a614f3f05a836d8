use Rattle.archive_input.proofs.InTurn.{wants}
use Rattle.archive_input.proofs.telling.tell_fault.Goals as goal

pub returns-in_default : goal.returns-in_default
returns-in_default g c = wants _ _ _
