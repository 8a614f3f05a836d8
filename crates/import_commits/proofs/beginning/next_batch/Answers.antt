use Rattle.std.proofs.Common.{◌∙◌}
use Rattle.import_commits.proofs.Batches.{next_looks}
use Rattle.import_commits.proofs.beginning.next_batch.Goals as goal

pub returns-clause-looks : goal.returns-clause-looks
returns-clause-looks g c =
    next_looks c.deref.result.now c.in_ok-next.next c.in_ok-batches.ensures.looks
    (λ rows is. c.deref.ensures.value ∙ is)
    c.in_ok-next.ensures.unused c.in_ok-next.ensures.closed
