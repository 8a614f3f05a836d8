use Rattle.std.proofs.Common.{inl, inr, refl}
use Rattle.store.proofs.archive.Archive.adopt.Goals as goal

pub returns-in-Ok-clause-begins : goal.returns-in-Ok-clause-begins
returns-in-Ok-clause-begins g c = λ clean t opened society content holds.
    let takes = c.in-Ok.ensures.takes clean in
    elim holds [
      | inl is ↦ takes.keeps.same refl society content (opened.has society content is)
      | inr was ↦ (takes.anew.finished society content (opened.had society content was)).0
    ]

pub returns-in-Err-clause-stopped : goal.returns-in-Err-clause-stopped
returns-in-Err-clause-stopped g c = λ clean t opened.
    let takes = c.in-Err.ensures.takes clean in
    record {
      kept = λ society content is. takes.keeps.crash society content (opened.has society content is);
      held = λ society content was. takes.anew.crash society content (opened.had society content was);
    }
