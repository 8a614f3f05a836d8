use Rattle.masking.proofs.Showing.{of_living}
use Rattle.masking.proofs.laws.of_the_living_nothing_is_shown.Goals as goal

pub returns : goal.returns
returns c = of_living
