use Rattle.archive_core.proofs.Serving.{step_draws}
use Rattle.archive_core.proofs.laws.an_answer_has_the_numbers_drawn.Goals as goal

pub returns : goal.returns
returns c = λ d t k a e. step_draws d t k a e
