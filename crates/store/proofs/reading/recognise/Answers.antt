use Rattle.std.proofs.Common.{arith, inl, inr, refl}
use Rattle.sqlite.specs.Held.{state}
use Rattle.sqlite.specs.State.{HasCleanDisk}
use Rattle.sqlite.specs.Tree.{Trees}
use Rattle.store.proofs.InTurn.{survives_both}
use Rattle.store.specs.Histories.{is_storage}
use Rattle.store.proofs.Recognised.{as_it_was, fails_after, leaves_store, stays_after, stays_known, told_after}
use Rattle.store.proofs.reading.recognise.Goals as goal

pub returns-in-Ok-clause-stays : goal.returns-in-Ok-clause-stays
returns-in-Ok-clause-stays g c clean =
    stays_known (state g.S.Store c.args.conn.now) (state g.S.Store c.look_at_tables.new.conn) c.in-Ok.version clean
    c.in-Ok.ensures.looks

pub returns-in-Err-clause-stays : goal.returns-in-Err-clause-stays
returns-in-Err-clause-stays g c clean =
    let mid = state g.S.Store c.look_at_tables.new.conn in
    let new = state g.S.Store c.refusal_after.new.conn in
    let after = c.refusal_after.ensures in
    let before : HasCleanDisk mid = omega (arith, after.survives.clean, clean) in
    let left : (t : Trees) → new.may_leave t → mid.may_leave t = λ t l. elim (after.survives.crash clean t l)
    [ inl was ↦ was | inr none ↦ absurd none ] in
    stays_after (state g.S.Store c.args.conn.now) mid new c.in-Err.kind c.refusal_after.result before
    c.in-Err.ensures.looks (after.settled clean) left

pub returns-in-Err-clause-refused : goal.returns-in-Err-clause-refused
returns-in-Err-clause-refused g c clean rows was =
    let after = c.refusal_after.ensures in
    let before : HasCleanDisk (state g.S.Store c.look_at_tables.new.conn) = omega
    (arith, after.survives.clean, clean) in
    fails_after (is_storage c.refusal_after.result) c.in-Err.kind c.refusal_after.result refl after.same
    (c.in-Err.ensures.looks.refused before rows was)

pub returns-in-Err-clause-told : goal.returns-in-Err-clause-told
returns-in-Err-clause-told g c clean =
    let after = c.refusal_after.ensures in
    let before : HasCleanDisk (state g.S.Store c.look_at_tables.new.conn) = omega
    (arith, after.survives.clean, clean) in
    told_after g.S.Store (state g.S.Store c.args.conn.now) (is_storage c.refusal_after.result) c.in-Err.kind
    c.refusal_after.result refl after.same (c.in-Err.ensures.told before)

pub returns-in-Ok-clause-left : goal.returns-in-Ok-clause-left
returns-in-Ok-clause-left g c =
    leaves_store (state g.S.Store c.args.conn.now) (state g.S.Store c.look_at_tables.new.conn)
    c.look_at_tables.ensures.survives (λ is_open t. g.met.S.Store.settled c.args.conn.now.store t is_open)

pub returns-in-Err-clause-left : goal.returns-in-Err-clause-left
returns-in-Err-clause-left g c =
    let old = state g.S.Store c.args.conn.now in
    let mid = state g.S.Store c.look_at_tables.new.conn in
    let new = state g.S.Store c.refusal_after.new.conn in
    leaves_store old new
    (survives_both old mid new c.look_at_tables.ensures.survives c.refusal_after.ensures.survives)
    (λ is_open t. g.met.S.Store.settled c.args.conn.now.store t is_open)

pub returns-in-Err-clause-unchanged : goal.returns-in-Err-clause-unchanged
returns-in-Err-clause-unchanged g c clean =
    let after = c.refusal_after.ensures in
    let mid = state g.S.Store c.look_at_tables.new.conn in
    let before : HasCleanDisk mid = omega (arith, after.survives.clean, clean) in
    as_it_was (state g.S.Store c.args.conn.now) mid (state g.S.Store c.refusal_after.new.conn) c.in-Err.kind
    c.refusal_after.result (c.in-Err.ensures.unchanged before) after.same (after.kept clean)
