use Rattle.std.proofs.Common.{ap, refl, Err}
use Rattle.tasks.proofs.perform.try_task.Goals as goal

pub returns-then-is_lost-clause-reopen : goal.returns-then-is_lost-clause-reopen
returns-then-is_lost-clause-reopen g c = λ _. (ap Err c.placeless.ensures, refl, refl)
