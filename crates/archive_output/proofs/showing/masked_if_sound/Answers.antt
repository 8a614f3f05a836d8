use Rattle.std.proofs.Common.{◌∙◌, inl, inr, ap, refl, sym, true≢false, w32}
use Rattle.std.proofs.lemmas.Int.{to_z-of_z}
use Rattle.record_text.specs.declared.refusal.Refusal.{Refusal}
use Rattle.archive_output.proofs.Sound.{day_of, want_unsound}
use Rattle.archive_output.proofs.showing.masked_if_sound.Goals as goal

pub returns-in-Ok-true-clause-shown : goal.returns-in-Ok-true-clause-shown
returns-in-Ok-true-clause-shown c =
    day_of c.args.state.now _ c.args.today (to_z-of_z w32 c.args.today c.ranges.today) c.masked.result
    c.masked.ensures.shown (c.in-Ok-true.ensures.sound.0 c.in-Ok-true.field-0-test)

pub returns-in-Ok-true-clause-refused : goal.returns-in-Ok-true-clause-refused
returns-in-Ok-true-clause-refused c = want_unsound c.args.state.now c.masked.result c.masked.ensures.refused

pub returns-in-Ok-false-clause-refused : goal.returns-in-Ok-false-clause-refused
returns-in-Ok-false-clause-refused c = inr (
  refl,
  λ is. true≢false (sym (c.in-Ok-false.ensures.sound.1 is) ∙ c.in-Ok-false.field-0-test),
)

pub returns-in-Err-clause-refused : goal.returns-in-Err-clause-refused
returns-in-Err-clause-refused c = inl (ap (λ (e : Refusal). e.kind) c.in-Err.ensures.refused)
