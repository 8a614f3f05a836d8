use Rattle.std.proofs.Common.{inl, inr}
use Rattle.import_commits.proofs.stages.stage.Goals as goal

pub returns-in-Err-clause-undone : goal.returns-in-Err-clause-undone
returns-in-Err-clause-undone g c clean want = (
  c.in-Err.ensures.kept,
  λ rows was t l. elim (c.in-Err.ensures.undone clean rows was t l) [ inl good ↦ good | inr good ↦ good ],
)
