use Rattle.field_changes.proofs.Stepping.{leaves_all_else}
use Rattle.field_changes.proofs.laws.all_else_stays.Goals as goal

pub returns : goal.returns
returns c = leaves_all_else
