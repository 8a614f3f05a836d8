use Rattle.std.proofs.Common.{rules}
use Rattle.sqlite.specs.Held.{state}
use Rattle.store_tables.specs.Reading.{IsU32}
use Rattle.store_tables.specs.Rows.{with_record_row}
use Rattle.store_tables.proofs.Calls.{followed}
use Rattle.store_tables.proofs.Statements.{inserts_record}
use Rattle.store_tables.proofs.Typed.{typed_record}
use Rattle.store_tables.proofs.rows.insert_record.Goals as goal

pub returns-clause-ok : goal.returns-clause-ok
returns-clause-ok g c clean rows inside =
    let old = state g.S.Store c.args.tx.now.conn.now in
    let new = state g.S.Store c.execute.new.self.conn.now in
    let low0 : IsU32 c.args.number = search rules in
    let low1 : IsU32 c.args.batch = search rules in
    let ran = rw (c.params-to_sql.ensures, c.params-to_sql-2.ensures, c.params-to_sql-3.ensures) at
    (c.in_ok-execute.ensures.runs clean inside.inside) in
    followed _ _ old new _ (with_record_row c.args.number c.args.kind.now c.args.batch)
    (inserts_record old new c.args.number c.args.kind.now c.args.batch c.in_ok-execute.field-0)
    (typed_record c.args.number c.args.kind.now c.args.batch low0 low1) ran rows inside
