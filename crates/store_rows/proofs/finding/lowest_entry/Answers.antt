use Rattle.std.proofs.Common.{◌≡◌, ◌+◌, ℕ, true, false, Ok, Some, sym, ap, subst, ◌∙◌, rules, arith, take, get_or}
use Rattle.std.specs.Prelude.{◌==◌}
use Rattle.std.proofs.lemmas.List.{take_all}
use Rattle.std.proofs.lemmas.List.Folds.{list_any_more}
use Rattle.archive_state.specs.Content.{Content}
use Rattle.archive_state.specs.Entries.{IsEntryAt}
use Rattle.store_rows.specs.Finding.{IsLowestAmong}
use Rattle.store_rows.proofs.Found.{sees_then, one_found, one_passed}
use Rattle.store_rows.proofs.Seen.{sees_from, sees_not}
use Rattle.store_rows.proofs.finding.lowest_entry.Goals.{then-branch, else-branch}
use Rattle.store_rows.proofs.finding.lowest_entry.Goals as goal

pub returns-in_err-is_entry_at-clause-sees : goal.returns-in_err-is_entry_at-clause-sees
returns-in_err-is_entry_at-clause-sees g c = sees_not c.from_residual.result (search rules)
    (sees_then c.numbers.invariant.1 c.in_err-is_entry_at.ensures.sees)

pub numbers-preserved : goal.numbers-preserved
numbers-preserved g c =
    let at = c.numbers.number-index in
    let all = c.args.numbers.now in
    let n = get_or all at 0 in
    let P : Content → ℕ → Type 0 = λ content k. IsEntryAt content.records c.args.source c.args.kind c.args.page.now
    c.args.item k in (
      c.is_entry_at.ensures.ended,
      sees_from (Ok tt) (sees_then c.numbers.invariant.1 c.in_ok-is_entry_at.ensures.sees)
          (λ content both.
          let grows = (λ (k : ℕ). list_any_more (λ j. j == k) all at 0 c.numbers-test.true) in
          elim c.if-branch.branch [
            | then-branch w ↦ subst (IsLowestAmong (P content) (take (at + 1) all))
                (sym (w.lowest-is ∙ ap Some w.lower.ensures))
                (one_found (P content) (take at all) (take (at + 1) all) n c.numbers.lowest grows both.0
                (both.1.0 w.if-branch.true))
            | else-branch w ↦ subst (IsLowestAmong (P content) (take (at + 1) all)) (sym w.lowest-is)
                (one_passed (P content) (take at all) (take (at + 1) all) n c.numbers.lowest grows both.0
                (λ h. let no : true ≡ false = sym (both.1.1 h) ∙ w.if-branch.false in absurd cc))
          ]) tt,
    )

pub returns-clause-sees : goal.returns-clause-sees
returns-clause-sees g c =
    sees_from (Ok _) c.numbers.invariant.1 (λ content low.
    subst (λ ns. IsLowestAmong (λ (k : ℕ). IsEntryAt content.records c.args.source c.args.kind c.args.page.now
    c.args.item k) ns c.numbers.lowest) (take_all c.numbers.number-index c.args.numbers.now (omega arith)) low) tt
