use Rattle.std.proofs.Common.{inl, inr}
use Rattle.import_commits.proofs.beginning.begin.Goals as goal
use Rattle.list_laws.proofs.Outcomes.{if_err}

pub returns-in_err-batch-clause-crash : goal.returns-in_err-batch-clause-crash
returns-in_err-batch-clause-crash g c clean rows was t l =
    inl (c.in_err-batch.ensures.looks.crash clean rows was t l)

pub returns-in_err-batch-clause-undone : goal.returns-in_err-batch-clause-undone
returns-in_err-batch-clause-undone g c clean =
    if_err c.from_residual.result _ (λ kind want rows was. c.in_err-batch.ensures.looks.crash clean rows was)

pub returns-in-Err-clause-crash : goal.returns-in-Err-clause-crash
returns-in-Err-clause-crash g c clean rows was t l =
    let looks = c.in_ok-batch.ensures.looks in
    let opened = c.in-Err.ensures in
    let before = opened.clean clean in
    elim (opened.crash clean rows (looks.same before rows was) t l) [
      | inl good ↦ inl good
      | inr good ↦ inr (c.in_ok-batch.batch, looks.read before rows was, good)
    ]
