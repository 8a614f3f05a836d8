use Rattle.std.proofs.Common.{◌≡◌, arith, false, inl, inr, subst, sym, Err}
use Rattle.sqlite.specs.Held.{state}
use Rattle.sqlite.specs.State.{HasCleanDisk}
use Rattle.sqlite.specs.Tree.{Trees}
use Rattle.archive_core.specs.Machine.{Does}
use Rattle.store_tables.proofs.Queries.{only_committed}
use Rattle.store.specs.Histories.{is_storage}
use Rattle.store.proofs.Committed.{done_or_not, ok_performs, refusal_performs}
use Rattle.store.proofs.performing.perform_at_once.Goals as goal

pub returns-in-Ok-clause-performs : goal.returns-in-Ok-clause-performs
returns-in-Ok-clause-performs g c clean =
    let old = state g.S.Store c.args.archive.now.conn in
    let new = state g.S.Store c.try_request.new.archive.conn in
    ok_performs old new c.args.request.now c.in-Ok.answer (c.in-Ok.ensures.acknowledged clean)
    (λ rows was t l. only_committed new rows t was
    (g.met.S.Store.settled c.try_request.new.archive.conn.store t was.is_open l)) (c.in-Ok.ensures.clean clean)

pub returns-in-Err-clause-performs : goal.returns-in-Err-clause-performs
returns-in-Err-clause-performs g c clean =
    let old = state g.S.Store c.args.archive.now.conn in
    let new = state g.S.Store c.refusal_after.new.conn in
    let mid = state g.S.Store c.try_request.new.archive.conn in
    let r = c.args.request.now in
    let after = c.refusal_after.ensures in
    let before : HasCleanDisk (state g.S.Store c.try_request.new.archive.conn) = omega
    (arith, after.survives.clean, clean) in
    let left : (t : Trees) → new.may_leave t → mid.may_leave t = λ t l. elim (after.survives.crash clean t l)
    [ inl was ↦ was | inr none ↦ absurd none ] in
    refusal_performs old new r c.refusal_after.result
    (λ sure society content rows was keeps.
    let same = after.same sure in
    let did = c.in-Err.ensures.refused before (subst (λ x. is_storage x.kind ≡ false) same sure) society content
    rows was keeps in (
      subst (λ x. Does content r (Err x) content) (sym same) did.0,
      after.settled clean sure rows did.1,
      λ t l. did.1 t (left t l),
    ))
    (λ society content rows was keeps. done_or_not new society content rows r keeps
    (λ t l. c.in-Err.ensures.together before society content rows was keeps t (left t l)))
    (c.in-Err.ensures.clean before)

pub returns-in-Err-clause-refused : goal.returns-in-Err-clause-refused
returns-in-Err-clause-refused g c clean sure society content rows was keeps =
    let after = c.refusal_after.ensures in
    let before : HasCleanDisk (state g.S.Store c.try_request.new.archive.conn) = omega
    (arith, after.survives.clean, clean) in
    after.settled clean sure rows
    (c.in-Err.ensures.refused before (subst (λ x. is_storage x.kind ≡ false) (after.same sure) sure) society content
    rows was keeps).1

pub returns-in-Err-clause-repeated : goal.returns-in-Err-clause-repeated
returns-in-Err-clause-repeated g c clean society content rows was keeps kept t l =
    let after = c.refusal_after.ensures in
    let before : HasCleanDisk (state g.S.Store c.try_request.new.archive.conn) = omega
    (arith, after.survives.clean, clean) in
    c.in-Err.ensures.repeated before society content rows was keeps kept t
    (elim (after.survives.crash clean t l) [ inl was ↦ was | inr none ↦ absurd none ])

pub returns-in-Err-clause-together : goal.returns-in-Err-clause-together
returns-in-Err-clause-together g c clean society content rows was keeps t l =
    let after = c.refusal_after.ensures in
    let before : HasCleanDisk (state g.S.Store c.try_request.new.archive.conn) = omega
    (arith, after.survives.clean, clean) in
    c.in-Err.ensures.together before society content rows was keeps t
    (elim (after.survives.crash clean t l) [ inl was ↦ was | inr none ↦ absurd none ])

pub returns-in-Err-clause-placed : goal.returns-in-Err-clause-placed
returns-in-Err-clause-placed g c = c.refusal_after.ensures.placed c.in-Err.ensures.placed
