use Rattle.std.proofs.Common.{arith, inl, inr, subst, true, false, Ok}
use Rattle.sqlite.specs.Held.{state}
use Rattle.sqlite.specs.State.{HasCleanDisk}
use Rattle.sqlite.specs.Tree.{Trees}
use Rattle.store_tables.specs.Looking.{Looks}
use Rattle.store.proofs.Adopted.{Finds, none_found, some_found, unknown}
use Rattle.store.proofs.adopting.remove_imports.Goals as goal

pub returns-in-Ok-true-clause-clears : goal.returns-in-Ok-true-clause-clears
returns-in-Ok-true-clause-clears g c clean =
    let old = state g.S.Store c.args.conn.now in
    let mid = state g.S.Store c.has_open.new.conn in
    let after = c.remove_them.ensures in
    let looks : Looks Finds old mid (Ok true) = subst (λ b. Looks Finds old mid (Ok b)) c.in-Ok-true.field-0-test
    c.in-Ok-true.ensures.looks in
    some_found c.args.has_spans old mid (state g.S.Store c.remove_them.new.conn) c.remove_them.result
    (after.clean clean) looks (after.cleared clean) (after.stays clean) (after.crash clean)
    (after.refused clean)

pub returns-in-Ok-false-clause-clears : goal.returns-in-Ok-false-clause-clears
returns-in-Ok-false-clause-clears g c clean =
    let old = state g.S.Store c.args.conn.now in
    let new = state g.S.Store c.has_open.new.conn in
    let looks : Looks Finds old new (Ok false) = subst (λ b. Looks Finds old new (Ok b)) c.in-Ok-false.field-0-test
    c.in-Ok-false.ensures.looks in
    none_found c.args.has_spans old new clean looks

pub returns-in-Err-clause-clears : goal.returns-in-Err-clause-clears
returns-in-Err-clause-clears g c clean =
    let old = state g.S.Store c.args.conn.now in
    let mid = state g.S.Store c.has_open.new.conn in
    let new = state g.S.Store c.failure_after.new.conn in
    let after = c.failure_after.ensures in
    let before : HasCleanDisk mid = omega (arith, after.survives.clean, clean) in
    let left : (t : Trees) → new.may_leave t → mid.may_leave t = λ t l. elim (after.survives.crash clean t l)
    [ inl was ↦ was | inr none ↦ absurd none ] in
    unknown c.args.has_spans old mid new c.in-Err.kind c.failure_after.result before c.in-Err.ensures.looks
    (after.settled clean) left after.same
