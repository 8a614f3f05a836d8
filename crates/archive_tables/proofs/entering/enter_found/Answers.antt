use Rattle.std.proofs.Common.{◌∙◌, ℕ, List, Ok, ap, inl, inr, refl, subst}
use Rattle.archive_core.specs.declared.request.Request.{Request}
use Rattle.archive_input.specs.Applying.{Steps}
use Rattle.archive_tables.specs.Entering.{answered}
use Rattle.archive_tables.proofs.entering.enter_found.Goals as goal

pub returns-in-Ok-Ok : goal.returns-in-Ok-Ok
returns-in-Ok-Ok g c =
    let made = rw c.in-Ok-Ok.field-0-is at c.in-Ok-Ok.ensures in
    let outcome = c.perform_once-outcome.result in
    inl (record {
      rows = made.0;
      outcome = outcome;
      right = made.1;
      done = subst (λ (r : Request). Steps g.S.Store (Ok (r, outcome)) c.args.archive.now
          c.perform_once-outcome.new.archive) made.2 c.perform_once-outcome.ensures;
      is = c.answered.ensures ∙ ap (λ (numbers : List ℕ). answered numbers outcome) made.3;
    })

pub returns-in-Ok-Err : goal.returns-in-Ok-Err
returns-in-Ok-Err g c = inr (c.in-Ok-Err.refusal, refl, inr (rw c.in-Ok-Err.field-0-is at c.in-Ok-Err.ensures), refl)

pub returns : goal.returns
returns g c = inr (c.unplaced.result, refl, inl c.unplaced.ensures, refl)
