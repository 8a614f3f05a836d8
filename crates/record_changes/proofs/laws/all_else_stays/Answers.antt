use Rattle.record_changes.proofs.Following.{leaves_all_else}
use Rattle.record_changes.proofs.laws.all_else_stays.Goals as goal

pub returns : goal.returns
returns c = leaves_all_else
