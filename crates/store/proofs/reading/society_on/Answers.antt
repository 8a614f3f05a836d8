use Rattle.std.proofs.Common.{◌∙◌, arith, inl, inr, refl}
use Rattle.sqlite.specs.Held.{state}
use Rattle.sqlite.specs.State.{HasCleanDisk}
use Rattle.sqlite.specs.Tree.{Trees}
use Rattle.store.specs.Histories.{is_storage}
use Rattle.store.proofs.Looked.{err_reads, ok_reads}
use Rattle.store.proofs.Recognised.{fails_after}
use Rattle.store.proofs.reading.society_on.Goals as goal

pub returns-in-Ok-clause-reads : goal.returns-in-Ok-clause-reads
returns-in-Ok-clause-reads g c clean =
    let read = c.in-Ok.ensures.looks in
    ok_reads _ (state g.S.Store c.args.conn.now) (state g.S.Store c.society.new.conn) c.in-Ok.text
    (λ rows society content was keeps. read.read clean rows was ∙ keeps.society_is)
    (read.same clean) (read.crash clean) (read.clean clean)

pub returns-in-Err-clause-reads : goal.returns-in-Err-clause-reads
returns-in-Err-clause-reads g c clean =
    let old = state g.S.Store c.args.conn.now in
    let mid = state g.S.Store c.society.new.conn in
    let new = state g.S.Store c.refusal_after.new.conn in
    let after = c.refusal_after.ensures in
    let before : HasCleanDisk mid = omega (arith, after.survives.clean, clean) in
    let left : (t : Trees) → new.may_leave t → mid.may_leave t = λ t l. elim (after.survives.crash clean t l)
    [ inl was ↦ was | inr none ↦ absurd none ] in
    let read = c.in-Err.ensures.looks in
    err_reads _ old mid new c.in-Err.kind c.refusal_after.result
    (λ society content has. read.refused before has.0 has.1)
    (read.crash before) (read.clean before) (after.settled clean) after.same left

pub returns-in-Err-clause-unread : goal.returns-in-Err-clause-unread
returns-in-Err-clause-unread g c clean rows was =
    let after = c.refusal_after.ensures in
    let before : HasCleanDisk (state g.S.Store c.society.new.conn) = omega (arith, after.survives.clean, clean) in
    fails_after (is_storage c.refusal_after.result) c.in-Err.kind c.refusal_after.result refl after.same
    (c.in-Err.ensures.looks.refused before rows was)
