use Rattle.corrections.proofs.Outcomes.{leaves_other_fields}
use Rattle.corrections.proofs.laws.other_fields_stay.Goals as goal

pub returns : goal.returns
returns c = leaves_other_fields
