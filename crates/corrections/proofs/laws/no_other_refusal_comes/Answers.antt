use Rattle.corrections.proofs.Outcomes.{refuses_itself}
use Rattle.corrections.proofs.laws.no_other_refusal_comes.Goals as goal

pub returns : goal.returns
returns c = refuses_itself
