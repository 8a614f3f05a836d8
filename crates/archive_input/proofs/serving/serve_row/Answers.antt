use Rattle.std.proofs.Common.{◌∙◌, sym}
use Rattle.archive_input.proofs.InTurn.{not_refused, told_as}
use Rattle.archive_input.proofs.serving.serve_row.Goals as goal

pub returns-in-Ok-None-clause-served : goal.returns-in-Ok-None-clause-served
returns-in-Ok-None-clause-served g c =
    let h = c.in-Ok-None.ensures.served in (
      h.0,
      h.1,
      record {
        asked = h.2;
        performed = h.3;
        certain = h.4;
        answered = h.5;
        faulted = not_refused _ _ _ (sym c.in-Ok-None.field-0-is ∙ h.6);
      },
      sym c.in-Ok-None.field-0-is ∙ h.6,
    )

pub returns-in-Ok-Some-clause-served : goal.returns-in-Ok-Some-clause-served
returns-in-Ok-Some-clause-served g c =
    let h = c.in-Ok-Some.ensures.served in (
      h.0,
      h.1,
      record {
        asked = h.2;
        performed = h.3;
        certain = h.4;
        answered = h.5;
        faulted = told_as _ _ _ _ _ (sym c.in-Ok-Some.field-0-is ∙ h.6) c.tell_fault.ensures;
      },
      sym c.in-Ok-Some.field-0-is ∙ h.6,
    )
