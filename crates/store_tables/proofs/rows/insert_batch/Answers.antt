use Rattle.std.proofs.Common.{rules}
use Rattle.sqlite.specs.Held.{state}
use Rattle.store_tables.specs.Reading.{IsU32}
use Rattle.store_tables.specs.Rows.{with_batch}
use Rattle.store_tables.proofs.Calls.{followed}
use Rattle.store_tables.proofs.Statements.{inserts_batch}
use Rattle.store_tables.proofs.Typed.{typed_batch}
use Rattle.store_tables.proofs.rows.insert_batch.Goals as goal

pub returns-clause-ok : goal.returns-clause-ok
returns-clause-ok g c clean rows inside =
    let old = state g.S.Store c.args.tx.now.conn.now in
    let new = state g.S.Store c.execute.new.self.conn.now in
    let low0 : IsU32 c.args.number = search rules in
    let ran = rw (c.params-to_sql.ensures, c.params-to_sql-2.ensures, c.flag-flag.ensures) at
    (c.in_ok-execute.ensures.runs clean inside.inside) in
    followed _ _ old new _ (with_batch c.args.number c.args.is_open)
    (inserts_batch old new c.args.number c.args.is_open c.in_ok-execute.field-0)
    (typed_batch c.args.number c.args.is_open low0) ran rows inside
