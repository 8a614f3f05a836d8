use Rattle.place_names.proofs.Leaving.{leaves_all_else}
use Rattle.place_names.proofs.laws.all_else_stays.Goals as goal

pub returns : goal.returns
returns c = leaves_all_else
