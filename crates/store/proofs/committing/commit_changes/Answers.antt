use Rattle.std.proofs.Common.{inl, inr}
use Rattle.store.proofs.committing.commit_changes.Goals as goal

pub returns-in-Err-clause-undone : goal.returns-in-Err-clause-undone
returns-in-Err-clause-undone g c clean sure rows was t l =
    elim (c.in-Err.ensures.undone clean rows was t l) [ inl good ↦ good | inr good ↦ good ]
