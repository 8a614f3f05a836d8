use Rattle.masking.proofs.Showing.{none_shown}
use Rattle.masking.proofs.laws.no_carried_line_is_shown.Goals as goal

pub returns : goal.returns
returns c = none_shown
