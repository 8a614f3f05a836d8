-- When an undoing is done, and when it is refused.
use Rattle.std.proofs.Common.{◌≡◌, ℕ, Bool, true, false, refl, ap, ◌∙◌}
use Rattle.std.specs.Prelude.{Some, not, Ok, Err}
use Rattle.std.specs.FinMap.{get}
use Rattle.record_text.specs.declared.refusal.RefusalKind.TheVariants.{AlreadyUndone, ChangedSince}
use Rattle.archive_state.specs.Content.{Content}
use Rattle.archive_state.specs.Slips.{Slip}
use Rattle.commands.specs.Rows.{and_then}
use Rattle.command_checks.specs.Checks.{need}
use Rattle.merging.specs.Comparing.{IsNow, is_now}
use Rattle.merging.specs.Merges.{with_undo}
use Rattle.merging.specs.Steps.{RowStep, slip_in, undo_step}
use Rattle.merging.proofs.MergeComparing.{is_now_new, now_is}

abbrev judged : Content → ℕ → Slip → Bool → Bool → RowStep
judged c n s undone now = and_then (need (not undone) AlreadyUndone)
    (λ _. and_then (need now ChangedSince) (λ _. Ok (with_undo n s c, record { first = 0; count = 0 })))

by_two : (c : Content) (n : ℕ) (s : Slip) → get c.slips n ≡ Some s → undo_step c n ≡ judged c n s s.is_undone
    (is_now c.records s.changes)
by_two c n s there = ap
    (λ o. and_then (slip_in o (get c.records n)) (λ (x : Slip). judged c n x x.is_undone (is_now c.records x.changes)))
    there

not_now : (c : Content) (s : Slip) → (IsNow c.records s.changes → ⊥) → is_now c.records s.changes ≡ false
not_now c s h = elim (is_now c.records s.changes) as (λ b. is_now c.records s.changes ≡ b → b ≡ false) [
  | true ↦ λ e. absurd (h (now_is c.records s.changes e))
  | false ↦ λ e. refl
] refl

pub when_undone : (c : Content) (n : ℕ) (s : Slip) → get c.slips n ≡ Some s
    → (s.is_undone ≡ true → undo_step c n ≡ Err AlreadyUndone)
    × (s.is_undone ≡ false → IsNow c.records s.changes → undo_step c n ≡ Ok
    (with_undo n s c, record { first = 0; count = 0 }))
    × (s.is_undone ≡ false → (IsNow c.records s.changes → ⊥) → undo_step c n ≡ Err ChangedSince)
when_undone c n s there =
    let now = is_now c.records s.changes in
    let by = by_two c n s there in (
      (λ e. by ∙ ap (λ b. judged c n s b now) e),
      (λ e h. by ∙ ap (λ b. judged c n s b now) e ∙ ap (judged c n s false) (is_now_new c.records s.changes h)),
      (λ e h. by ∙ ap (λ b. judged c n s b now) e ∙ ap (judged c n s false) (not_now c s h)),
    )
