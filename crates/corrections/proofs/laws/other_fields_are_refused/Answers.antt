use Rattle.corrections.proofs.Outcomes.{refuses_other_fields}
use Rattle.corrections.proofs.laws.other_fields_are_refused.Goals as goal

pub returns : goal.returns
returns c = refuses_other_fields
