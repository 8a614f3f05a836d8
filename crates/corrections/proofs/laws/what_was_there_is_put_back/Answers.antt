use Rattle.corrections.proofs.Outcomes.{gives_back}
use Rattle.corrections.proofs.laws.what_was_there_is_put_back.Goals as goal

pub returns : goal.returns
returns c = gives_back
