use Rattle.std.proofs.Common.{refl}
use Rattle.store.proofs.reading.refusal_after.Goals as goal

pub returns-then-still_answers-clause-settled : goal.returns-then-still_answers-clause-settled
returns-then-still_answers-clause-settled g c clean sure rows left = c.if-still_answers.ensures.settled
    clean refl rows left

pub returns-then-still_answers-clause-kept : goal.returns-then-still_answers-clause-kept
returns-then-still_answers-clause-kept g c clean sure = c.if-still_answers.ensures.kept clean refl
