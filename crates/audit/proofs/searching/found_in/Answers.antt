use Rattle.std.proofs.Common.{◌≡◌, true, false, sym, subst, ◌∙◌}
use Rattle.std.specs.Prelude.{MatchOption}
use Rattle.sound_records.specs.Parts.{AreWhole, IsBreach}
use Rattle.audit.specs.Faults.{IsNext}
use Rattle.audit.proofs.Whole.{all_sound}
use Rattle.audit.proofs.searching.found_in.Goals as goal

pub returns-then-not-is_next : goal.returns-then-not-is_next
returns-then-not-is_next c = λ h.
    let both : true ≡ false = sym (c.is_next.ensures.1 (subst IsNext (sym c.next.ensures) h))
    ∙ c.if-not-is_next.true in absurd cc

pub returns : goal.returns
returns c =
    let now = c.args.state.now in
    all_sound now c.first_broken.result (subst IsNext c.next.ensures (c.is_next.ensures.0 c.if-not-is_next.false))
    (subst (λ o. MatchOption o (AreWhole now.next false now.records) (IsBreach now.next false now.records))
    c.in_default.is c.in_ok-breach.ensures)
    c.first_broken.ensures
