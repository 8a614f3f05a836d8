use Rattle.std.proofs.Common.{arith, inl, inr}
use Rattle.sqlite.specs.Held.{state}
use Rattle.sqlite.specs.State.{HasCleanDisk}
use Rattle.sqlite.specs.Tree.{Trees}
use Rattle.store_tables.proofs.Queries.{only_committed}
use Rattle.store.proofs.Adopted.{not_renewed, renewed}
use Rattle.store.proofs.adopting.renew_rows.Goals as goal

pub returns-in-Ok-clause-renews : goal.returns-in-Ok-clause-renews
returns-in-Ok-clause-renews g c clean =
    let new = state g.S.Store c.renew.new.conn in
    let done = c.in-Ok.ensures in
    renewed (state g.S.Store c.args.conn.now) new (done.done clean)
    (λ rows was t l. only_committed new rows t was (g.met.S.Store.settled c.renew.new.conn.store t was.is_open l))
    (done.crash clean) (done.clean clean)

pub returns-in-Err-clause-renews : goal.returns-in-Err-clause-renews
returns-in-Err-clause-renews g c clean =
    let mid = state g.S.Store c.renew.new.conn in
    let new = state g.S.Store c.failure_after.new.conn in
    let after = c.failure_after.ensures in
    let before : HasCleanDisk mid = omega (arith, after.survives.clean, clean) in
    let left : (t : Trees) → new.may_leave t → mid.may_leave t = λ t l. elim (after.survives.crash clean t l)
    [ inl was ↦ was | inr none ↦ absurd none ] in
    not_renewed (state g.S.Store c.args.conn.now) mid new c.in-Err.kind c.failure_after.result
    (c.in-Err.ensures.undone before) after.same (after.settled clean) (c.in-Err.ensures.crash before) left
    (c.in-Err.ensures.refused before) (c.in-Err.ensures.clean before)
