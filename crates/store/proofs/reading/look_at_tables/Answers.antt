use Rattle.std.proofs.Common.{arith, Ok, Err}
use Rattle.sqlite.specs.Held.{state}
use Rattle.sqlite.specs.State.{HasCleanDisk}
use Rattle.store_tables.proofs.Asking.{shown_same}
use Rattle.store.proofs.InTurn.{looks_at_tables, survives_both}
use Rattle.store_tables.specs.Prepared.{queries_of}
use Rattle.store.proofs.Recognised.{by_tables, by_version, known, same_tables, same_version, unknown}
use Rattle.store.proofs.reading.look_at_tables.Goals as goal

pub returns-in-Ok-check_tables-clause-looks : goal.returns-in-Ok-check_tables-clause-looks
returns-in-Ok-check_tables-clause-looks g c =
    let old = state g.S.Store c.args.conn.now in
    let mid = state g.S.Store c.check_version.new.conn in
    let new = state g.S.Store c.check_tables.new.conn in
    let after = c.in-Ok-check_tables.ensures in
    let first = c.in-Ok.ensures.looks in
    known old mid new c.in-Ok.version first (λ clean. omega (arith, after.told.survives.clean, clean))
    (looks_at_tables old mid new c.in-Ok.version (Ok tt) first after.told after.looks)

pub returns-in-Err-check_tables-clause-looks : goal.returns-in-Err-check_tables-clause-looks
returns-in-Err-check_tables-clause-looks g c =
    let old = state g.S.Store c.args.conn.now in
    let mid = state g.S.Store c.check_version.new.conn in
    let new = state g.S.Store c.check_tables.new.conn in
    let after = c.in-Err-check_tables.ensures in
    let kind = c.in-Err-check_tables.kind in
    unknown old new kind
    (looks_at_tables old mid new c.in-Ok.version (Err kind) c.in-Ok.ensures.looks after.told after.looks)

pub returns-in-Err-check_tables-clause-told : goal.returns-in-Err-check_tables-clause-told
returns-in-Err-check_tables-clause-told g c = λ clean.
    let after = c.in-Err-check_tables.ensures.told in
    let before : HasCleanDisk (state g.S.Store c.check_version.new.conn) = omega (arith, after.survives.clean, clean) in
    by_tables g.S.Store (state g.S.Store c.args.conn.now) c.check_version.new.conn c.in-Ok.version
    (state g.S.Store c.check_tables.new.conn) c.in-Err-check_tables.kind (c.in-Ok.ensures.version before)
    (after.refused clean)

pub returns-in-Ok-check_tables-clause-recognised : goal.returns-in-Ok-check_tables-clause-recognised
returns-in-Ok-check_tables-clause-recognised g c = λ clean.
    let after = c.in-Ok-check_tables.ensures.told in
    let before : HasCleanDisk (state g.S.Store c.check_version.new.conn) = omega (arith, after.survives.clean, clean) in
    (c.check_version.new.conn, c.in-Ok.ensures.version before, after.told clean)

pub returns-in-Err-clause-told : goal.returns-in-Err-clause-told
returns-in-Err-clause-told g c = λ clean. by_version g.S.Store (state g.S.Store c.args.conn.now)
    c.check_version.new.conn c.in-Err.kind (c.in-Err.ensures.told clean)

pub returns-in-Ok-check_tables-clause-survives : goal.returns-in-Ok-check_tables-clause-survives
returns-in-Ok-check_tables-clause-survives g c =
    survives_both (state g.S.Store c.args.conn.now) (state g.S.Store c.check_version.new.conn)
    (state g.S.Store c.check_tables.new.conn) c.in-Ok.ensures.survives c.in-Ok-check_tables.ensures.told.survives

pub returns-in-Err-check_tables-clause-survives : goal.returns-in-Err-check_tables-clause-survives
returns-in-Err-check_tables-clause-survives g c =
    survives_both (state g.S.Store c.args.conn.now) (state g.S.Store c.check_version.new.conn)
    (state g.S.Store c.check_tables.new.conn) c.in-Ok.ensures.survives c.in-Err-check_tables.ensures.told.survives

pub returns-in-Err-check_tables-clause-unchanged : goal.returns-in-Err-check_tables-clause-unchanged
returns-in-Err-check_tables-clause-unchanged g c = λ clean.
    let after = c.in-Err-check_tables.ensures.told in
    let mid = state g.S.Store c.check_version.new.conn in
    let before : HasCleanDisk mid = omega (arith, after.survives.clean, clean) in
    let shown = c.in-Ok.ensures.version before in
    same_tables (queries_of c.in-Ok.version) (state g.S.Store c.args.conn.now) mid
    (state g.S.Store c.check_tables.new.conn) c.in-Err-check_tables.kind
    (shown_same (state g.S.Store c.args.conn.now) mid shown.0 shown.1) (after.refused clean)

pub returns-in-Err-clause-unchanged : goal.returns-in-Err-clause-unchanged
returns-in-Err-clause-unchanged g c = λ clean. same_version (state g.S.Store c.args.conn.now)
    (state g.S.Store c.check_version.new.conn) c.in-Err.kind (c.in-Err.ensures.told clean)
