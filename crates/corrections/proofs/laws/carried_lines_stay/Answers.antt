use Rattle.corrections.proofs.Outcomes.{leaves_carried_lines}
use Rattle.corrections.proofs.laws.carried_lines_stay.Goals as goal

pub returns : goal.returns
returns c = leaves_carried_lines
