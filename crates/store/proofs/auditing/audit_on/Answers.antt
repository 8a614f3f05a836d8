use Rattle.std.proofs.Common.{arith, inl, inr}
use Rattle.sqlite.specs.Held.{state}
use Rattle.sqlite.specs.State.{HasCleanDisk}
use Rattle.sqlite.specs.Tree.{Trees}
use Rattle.store.proofs.Audited.{audit_reads, refused_judges, refused_reads}
use Rattle.store.proofs.auditing.audit_on.Goals as goal

pub returns-in-Ok-clause-reads : goal.returns-in-Ok-clause-reads
returns-in-Ok-clause-reads g c clean =
    let read = c.in-Ok.ensures in
    audit_reads (state g.S.Store c.args.conn.now) (state g.S.Store c.judge_tables.new.conn) c.in-Ok.records
    (read.judged clean) (read.same clean) (read.kept clean)

pub returns-in-Err-clause-judged : goal.returns-in-Err-clause-judged
returns-in-Err-clause-judged g c clean =
    let after = c.refusal_after.ensures in
    let before : HasCleanDisk (state g.S.Store c.judge_tables.new.conn) = omega
    (arith, after.survives.clean, clean) in
    refused_judges (state g.S.Store c.args.conn.now) c.in-Err.kind c.refusal_after.result
    (c.in-Err.ensures.judged before) after.same

pub returns-in-Err-clause-told : goal.returns-in-Err-clause-told
returns-in-Err-clause-told g c clean =
    let before : HasCleanDisk (state g.S.Store c.judge_tables.new.conn) = omega
    (arith, c.refusal_after.ensures.survives.clean, clean) in
    c.in-Err.ensures.told before

pub returns-in-Err-clause-reads : goal.returns-in-Err-clause-reads
returns-in-Err-clause-reads g c clean =
    let old = state g.S.Store c.args.conn.now in
    let mid = state g.S.Store c.judge_tables.new.conn in
    let new = state g.S.Store c.refusal_after.new.conn in
    let after = c.refusal_after.ensures in
    let before : HasCleanDisk mid = omega (arith, after.survives.clean, clean) in
    let left : (t : Trees) → new.may_leave t → mid.may_leave t = λ t l. elim (after.survives.crash clean t l)
    [ inl was ↦ was | inr none ↦ absurd none ] in
    let read = c.in-Err.ensures in
    refused_reads old c.in-Err.kind c.refusal_after.result (read.judged before) after.same mid new (read.kept before)
    (after.settled clean) left
