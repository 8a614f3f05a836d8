use Rattle.std.proofs.Common.{arith, inl, inr, w32}
use Rattle.std.proofs.lemmas.Int.{to_z-of_z}
use Rattle.sqlite.specs.Held.{state}
use Rattle.sqlite.specs.State.{HasCleanDisk}
use Rattle.sqlite.specs.Tree.{Trees}
use Rattle.store.proofs.Looked.{days_same, err_reads, ok_reads}
use Rattle.store.proofs.days.between_on.Goals as goal

pub returns-in-Ok-clause-reads : goal.returns-in-Ok-clause-reads
returns-in-Ok-clause-reads g c clean =
    let read = c.in-Ok.ensures.sees in
    ok_reads _ (state g.S.Store c.args.conn.now) (state g.S.Store c.between_days.new.conn) c.in-Ok.found
    (λ rows society content was keeps. days_same content.records c.in-Ok.found.items _ _ c.args.first c.args.last
    (to_z-of_z w32 c.args.first c.ranges.first) (to_z-of_z w32 c.args.last c.ranges.last)
    (read.read clean rows was keeps.dated content keeps.means keeps.spans))
    (read.same clean) (read.crash clean) (read.clean clean)

pub returns-in-Err-clause-reads : goal.returns-in-Err-clause-reads
returns-in-Err-clause-reads g c clean =
    let old = state g.S.Store c.args.conn.now in
    let mid = state g.S.Store c.between_days.new.conn in
    let new = state g.S.Store c.refusal_after.new.conn in
    let after = c.refusal_after.ensures in
    let before : HasCleanDisk mid = omega (arith, after.survives.clean, clean) in
    let left : (t : Trees) → new.may_leave t → mid.may_leave t = λ t l. elim (after.survives.crash clean t l)
    [ inl was ↦ was | inr none ↦ absurd none ] in
    let read = c.in-Err.ensures.sees in
    err_reads _ old mid new c.in-Err.kind c.refusal_after.result
    (λ society content has. read.refused before has.0 has.1) (read.crash before) (read.clean before)
    (after.settled clean) after.same left
