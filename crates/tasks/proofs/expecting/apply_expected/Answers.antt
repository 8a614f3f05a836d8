use Rattle.std.proofs.Common.{◌≡◌, ◌∙◌, Err, Ok, ap, refl, subst, sym}
use Rattle.expected_rows.specs.declared.expecting.Ending.TheVariants.{All, Refused, Unexpected}
use Rattle.tasks.proofs.Blamed.{blamed_by}
use Rattle.tasks.specs.Expecting.{Expecting, SaysUnexpected, as_expected}
use Rattle.tasks.proofs.expecting.apply_expected.Goals as goal

pub returns-in-Ok-All : goal.returns-in-Ok-All
returns-in-Ok-All g c =
    let did = c.apply_as_expected.ensures in
    let whole : c.apply_as_expected.result ≡ Ok All = c.in-Ok-All.is ∙ ap Ok c.in-Ok-All.field-0-is in (
      c.apply_as_expected.result,
      subst (λ (r : Expecting). Ok tt ≡ as_expected r) (sym whole) refl,
      record {
        between = c.apply_as_expected.new.faults;
        applied = did.applied;
        ended = did.ended;
        said = subst (λ (r : Expecting). SaysUnexpected g.F.Write.contents g.F.Device.failed r
            c.apply_as_expected.new.faults c.apply_as_expected.new.faults) (sym whole) refl;
        blamed = blamed_by c.apply_as_expected.result _ _ did.read_failed did.write_failed;
      },
    )

pub returns-in-Ok-Refused : goal.returns-in-Ok-Refused
returns-in-Ok-Refused g c =
    let did = c.apply_as_expected.ensures in
    let whole : c.apply_as_expected.result ≡ Ok (Refused c.in-Ok-Refused.refusal) =
    c.in-Ok-Refused.is ∙ ap Ok c.in-Ok-Refused.field-0-is in (
      c.apply_as_expected.result,
      subst (λ (r : Expecting). Err c.text.result ≡ as_expected r) (sym whole) (ap Err c.text.ensures),
      record {
        between = c.apply_as_expected.new.faults;
        applied = did.applied;
        ended = did.ended;
        said = subst (λ (r : Expecting). SaysUnexpected g.F.Write.contents g.F.Device.failed r
            c.apply_as_expected.new.faults c.apply_as_expected.new.faults) (sym whole) refl;
        blamed = blamed_by c.apply_as_expected.result _ _ did.read_failed did.write_failed;
      },
    )

pub returns-in-Ok-Unexpected : goal.returns-in-Ok-Unexpected
returns-in-Ok-Unexpected g c =
    let did = c.apply_as_expected.ensures in
    let whole : c.apply_as_expected.result ≡ Ok (Unexpected c.in-Ok-Unexpected.row) =
    c.in-Ok-Unexpected.is ∙ ap Ok c.in-Ok-Unexpected.field-0-is in (
      c.apply_as_expected.result,
      subst (λ (r : Expecting). Err c.unexpected.result ≡ as_expected r) (sym whole) (ap Err c.unexpected.ensures),
      record {
        between = c.apply_as_expected.new.faults;
        applied = did.applied;
        ended = did.ended;
        said = subst (λ (r : Expecting). SaysUnexpected g.F.Write.contents g.F.Device.failed r
            c.apply_as_expected.new.faults c.say_unexpected.new.faults) (sym whole) c.say_unexpected.ensures;
        blamed = blamed_by c.apply_as_expected.result _ _ did.read_failed did.write_failed;
      },
    )

pub returns-in-Err : goal.returns-in-Err
returns-in-Err g c =
    let did = c.apply_as_expected.ensures in
    let whole : c.apply_as_expected.result ≡ Err c.in-Err.kind = c.in-Err.is in (
      c.apply_as_expected.result,
      subst (λ (r : Expecting). Err c.placeless.result ≡ as_expected r) (sym whole) (ap Err c.placeless.ensures),
      record {
        between = c.apply_as_expected.new.faults;
        applied = did.applied;
        ended = did.ended;
        said = subst (λ (r : Expecting). SaysUnexpected g.F.Write.contents g.F.Device.failed r
            c.apply_as_expected.new.faults c.apply_as_expected.new.faults) (sym whole) refl;
        blamed = blamed_by c.apply_as_expected.result _ _ did.read_failed did.write_failed;
      },
    )
