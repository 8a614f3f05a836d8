use Rattle.member_changes.proofs.Stepping.{leaves_all_else}
use Rattle.member_changes.proofs.laws.all_else_stays.Goals as goal

pub returns : goal.returns
returns c = leaves_all_else
