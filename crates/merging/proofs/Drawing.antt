-- A merge draws one number, that of its slip, and an undoing none; neither uses a number again.
use Rattle.std.proofs.Common.{◌≡◌, ℕ, ◌+◌, ◌<◌, ◌≤◌, sym, ap, ◌∙◌, inl, inr, subst, arith}
use Rattle.std.specs.Prelude.{Some, None, Ok}
use Rattle.std.specs.FinMap.{get, insert}
use Rattle.receipts.specs.declared.answer.Answer.{Answer}
use Rattle.archive_state.specs.Applied.{as_undone}
use Rattle.archive_state.specs.Content.{Content}
use Rattle.archive_state.specs.Slips.{Slip}
use Rattle.archive_state.proofs.Putting.{put_elsewhere, put_here}
use Rattle.command_checks.specs.Numbers.{Draws, UsesNoneAgain}
use Rattle.merging.specs.Merges.{slip_of}
use Rattle.merging.specs.Steps.{merge_step, undo_step}
use Rattle.merging.proofs.Stepping.{Merged, merged_by, Undone, undone_answer, undone_by}
use Rattle.merging.proofs.Used.{merge_keeps_used, undo_keeps_used}

pub merge_draws : (c after : Content) (keep gone : ℕ) (a : Answer) → merge_step c keep gone ≡ Ok (after, a)
    → Draws c a after
merge_draws c after keep gone a e =
    let h : Merged c keep gone after a = merged_by c after keep gone a e in
    let s : Slip = slip_of keep gone c.records in
    let next : after.next ≡ c.next + 1 = ap (λ (x : Content). x.next) (sym h.left) in (
      next ∙ ap (λ k. c.next + k) (sym h.count),
      inl (sym h.first),
      λ n from below.
          let less : n < c.next + 1 = subst (λ k. n < k) next below in
          let same : n ≡ c.next = omega arith in
          let there : get after.slips n ≡ Some s = ap (λ (x : Content). get x.slips n) (sym h.left)
          ∙ ap (get (insert c.slips c.next s)) same ∙ put_here c.slips c.next s in
          inr (λ none. let both : Some s ≡ None = sym there ∙ none in absurd cc),
    )

pub merge_uses_none : (c after : Content) (keep gone : ℕ) (a : Answer) → merge_step c keep gone ≡ Ok (after, a)
    → UsesNoneAgain c after
merge_uses_none c after keep gone a e =
    let h : Merged c keep gone after a = merged_by c after keep gone a e in
    let next : after.next ≡ c.next + 1 = ap (λ (x : Content). x.next) (sym h.left) in
    let later : c.next ≤ c.next + 1 = omega arith in (
      subst (λ k. c.next ≤ k) (sym next) later,
      λ n less none. ap (λ (x : Content). get x.slips n) (sym h.left) ∙ put_elsewhere c.slips c.next
          (slip_of keep gone c.records) n (λ same. absurd (omega arith)) ∙ none,
      λ n used. merge_keeps_used c after keep gone n a e used,
    )

pub undo_draws : (c after : Content) (k : ℕ) (a : Answer) → undo_step c k ≡ Ok (after, a) → Draws c a after
undo_draws c after k a e =
    let h : Undone c k after = undone_by c after k a e in
    let answer = undone_answer c after k a e in
    let next : after.next ≡ c.next = ap (λ (x : Content). x.next) (sym h.left) in
    let more : c.next ≡ c.next + 0 = omega arith in (
      next ∙ more ∙ ap (λ j. c.next + j) (sym answer.1),
      inr answer,
      λ n from below. let less : n < c.next = subst (λ j. n < j) next below in absurd (omega arith),
    )

pub undo_uses_none : (c after : Content) (k : ℕ) (a : Answer) → undo_step c k ≡ Ok (after, a) → UsesNoneAgain c after
undo_uses_none c after k a e =
    let h : Undone c k after = undone_by c after k a e in
    let next : after.next ≡ c.next = ap (λ (x : Content). x.next) (sym h.left) in
    let still : c.next ≤ c.next = omega arith in (
      subst (λ j. c.next ≤ j) (sym next) still,
      λ n less none. ap (λ (x : Content). get x.slips n) (sym h.left)
          ∙ put_elsewhere c.slips k (as_undone h.slip) n
          (λ same. let both : Some h.slip ≡ None = sym h.there ∙ ap (get c.slips) (sym same) ∙ none in
          absurd cc) ∙ none,
      λ n used. undo_keeps_used c after k n a e used,
    )
