use Rattle.std.proofs.Common.{arith, inl, inr, refl}
use Rattle.sqlite.specs.Held.{state}
use Rattle.sqlite.specs.State.{HasCleanDisk}
use Rattle.store.specs.Histories.{is_storage}
use Rattle.store.proofs.Adopted.{shows_one}
use Rattle.store.proofs.Recognised.{fails_after}
use Rattle.store.proofs.adopting.remove_them.Goals as goal

pub returns-in-Ok-clause-cleared : goal.returns-in-Ok-clause-cleared
returns-in-Ok-clause-cleared g c clean rows it = c.in-Ok.ensures.cleared clean rows it.settled it.schema

pub returns-in-Ok-clause-stays : goal.returns-in-Ok-clause-stays
returns-in-Ok-clause-stays g c clean sure rows it =
    let out = c.in-Ok.ensures.cleared clean rows it.settled it.schema in
    (out.0, out.1, out.2)

pub returns-in-Ok-clause-crash : goal.returns-in-Ok-clause-crash
returns-in-Ok-clause-crash g c clean rows it = c.in-Ok.ensures.crash clean rows it.settled it.schema

pub returns-in-Err-clause-stays : goal.returns-in-Err-clause-stays
returns-in-Err-clause-stays g c clean sure rows it =
    let mid = state g.S.Store c.remove_open.new.conn in
    let after = c.failure_after.ensures in
    let before : HasCleanDisk mid = omega (arith, after.survives.clean, clean) in
    shows_one mid (state g.S.Store c.failure_after.new.conn) c.in-Err.kind c.failure_after.result rows sure after.same
    (after.settled clean) (c.in-Err.ensures.stays before rows it.settled it.schema)

pub returns-in-Err-clause-crash : goal.returns-in-Err-clause-crash
returns-in-Err-clause-crash g c clean rows it t l =
    let mid = state g.S.Store c.remove_open.new.conn in
    let after = c.failure_after.ensures in
    let before : HasCleanDisk mid = omega (arith, after.survives.clean, clean) in
    let left : mid.may_leave t = elim (after.survives.crash clean t l) [ inl was ↦ was | inr none ↦ absurd none ] in
    c.in-Err.ensures.crash before rows it.settled it.schema t left

pub returns-in-Err-clause-refused : goal.returns-in-Err-clause-refused
returns-in-Err-clause-refused g c clean rows was =
    let mid = state g.S.Store c.remove_open.new.conn in
    let after = c.failure_after.ensures in
    let before : HasCleanDisk mid = omega (arith, after.survives.clean, clean) in
    fails_after (is_storage c.failure_after.result) c.in-Err.kind c.failure_after.result refl after.same
    (c.in-Err.ensures.refused before rows was)
