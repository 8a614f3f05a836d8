use Rattle.earlier_values.proofs.Replacing.{all_overwritten}
use Rattle.earlier_values.proofs.laws.all_that_is_overwritten_is_there.Goals as goal

pub returns : goal.returns
returns c = all_overwritten
