use Rattle.std.proofs.Common.{◌≡◌, arith, inl, inr, false, refl, subst, sym, take, ◌∙◌}
use Rattle.sqlite.specs.Held.{state}
use Rattle.sqlite.specs.State.{HasCleanDisk}
use Rattle.staged_rows.specs.Staging.{with_staged}
use Rattle.store.specs.Histories.{is_storage}
use Rattle.store.specs.Importing.{HasImport}
use Rattle.store.proofs.Imports.{has_spans, memory_of, stage_keeps, stage_leaves}
use Rattle.store.proofs.importing.stage_on.Goals as goal

pub returns-in-Ok-clause-staged : goal.returns-in-Ok-clause-staged
returns-in-Ok-clause-staged g c clean society content r has =
    let import = c.args.import.now in
    let new = state g.S.Store c.stage.new.conn in
    let did = c.in-Ok.ensures.staged clean has.0
    (has_spans c.an_import_that_is_begun_is_in_no_view.ensures society content r import has.0 has.2) has.1 in
    subst (λ i. (still : HasImport society content r i new) × (still.2.before ≡ has.2.before))
    (sym c.in-Ok.ensures.left) (
      (
        with_staged (take 256 import.left) has.0,
        did.0,
        stage_keeps c.a_stage_goes_on.ensures.anew 256 society content r import has.0 has.2 did.1,
      ),
      refl,
    )

pub returns-in-Ok-clause-crash : goal.returns-in-Ok-clause-crash
returns-in-Ok-clause-crash g c clean society content r has t l =
    stage_leaves c.an_import_that_is_begun_is_in_no_view.ensures c.a_stage_goes_on.ensures.begun 256 society content r
    c.args.import.now has.0 (state g.S.Store c.stage.new.conn) has.2
    (c.in-Ok.ensures.crash clean has.0
    (has_spans c.an_import_that_is_begun_is_in_no_view.ensures society content r c.args.import.now has.0 has.2) has.1)
    t l

pub returns-in-Err-clause-crash : goal.returns-in-Err-clause-crash
returns-in-Err-clause-crash g c clean society content r has t l =
    let after = c.refusal_after.ensures in
    let mid = state g.S.Store c.stage.new.conn in
    let before : HasCleanDisk mid = omega (arith, after.survives.clean, clean) in
    stage_leaves c.an_import_that_is_begun_is_in_no_view.ensures c.a_stage_goes_on.ensures.begun 256 society content r
    c.args.import.now has.0 mid has.2
    (c.in-Err.ensures.crash before has.0
    (has_spans c.an_import_that_is_begun_is_in_no_view.ensures society content r c.args.import.now has.0 has.2) has.1) t
    (elim (after.survives.crash clean t l) [ inl was ↦ was | inr none ↦ absurd none ])

pub returns-in-Err-clause-stays : goal.returns-in-Err-clause-stays
returns-in-Err-clause-stays g c clean sure =
    let after = c.refusal_after.ensures in
    let same = after.same sure in
    let before : HasCleanDisk (state g.S.Store c.stage.new.conn) = omega (arith, after.survives.clean, clean) in
    let want = memory_of c.in-Err.kind c.in-Err.ensures.refused (subst (λ k. is_storage k ≡ false) same sure) in
    let undone = c.in-Err.ensures.undone before want in
    let new = state g.S.Store c.refusal_after.new.conn in (
      same ∙ want,
      undone.0,
      λ society content r has. subst
          (λ i. (still : HasImport society content r i new) × (still.2.before ≡ has.2.before)) (sym undone.0)
          ((has.0, after.settled clean sure has.0 (undone.1 has.0 has.1), has.2), refl),
    )
