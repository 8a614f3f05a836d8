use Rattle.std.proofs.Common.{arith, inl, inr}
use Rattle.sqlite.specs.Held.{state}
use Rattle.sqlite.specs.State.{HasCleanDisk}
use Rattle.sqlite.specs.Tree.{Trees}
use Rattle.store.proofs.Recalled.{err_recalls, ok_recalls}
use Rattle.store.proofs.recalling.recall_on.Goals as goal

pub returns-in-Ok-clause-recalls : goal.returns-in-Ok-clause-recalls
returns-in-Ok-clause-recalls g c clean =
    let looks = c.in-Ok.ensures.looks in
    ok_recalls _ _ (state g.S.Store c.args.conn.now) (state g.S.Store c.recall.new.conn) c.in-Ok.found
    (looks.read clean) (looks.same clean) (looks.crash clean) (looks.clean clean)

pub returns-in-Err-clause-recalls : goal.returns-in-Err-clause-recalls
returns-in-Err-clause-recalls g c clean =
    let old = state g.S.Store c.args.conn.now in
    let mid = state g.S.Store c.recall.new.conn in
    let new = state g.S.Store c.refusal_after.new.conn in
    let after = c.refusal_after.ensures in
    let before : HasCleanDisk mid = omega (arith, after.survives.clean, clean) in
    let left : (t : Trees) → new.may_leave t → mid.may_leave t = λ t l. elim (after.survives.crash clean t l)
    [ inl was ↦ was | inr none ↦ absurd none ] in
    let looks = c.in-Err.ensures.looks in
    err_recalls _ _ old mid new c.in-Err.kind c.refusal_after.result (looks.refused before) (looks.crash before)
    (looks.clean before) (after.settled clean) after.same left
