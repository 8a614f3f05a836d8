use Rattle.masking.proofs.Showing.{of_dead}
use Rattle.masking.proofs.laws.the_dead_are_shown.Goals as goal

pub returns : goal.returns
returns c = of_dead
