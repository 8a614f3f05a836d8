use Rattle.corrections.proofs.Outcomes.{later_counts}
use Rattle.corrections.proofs.laws.the_later_correction_counts.Goals as goal

pub returns : goal.returns
returns c = later_counts
