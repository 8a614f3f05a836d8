use Rattle.std.proofs.Common.{rules}
use Rattle.sqlite.specs.Held.{state}
use Rattle.store_tables.specs.Reading.{IsU32}
use Rattle.store_tables.specs.Rows.{with_slip_row}
use Rattle.store_tables.proofs.Calls.{followed}
use Rattle.store_tables.proofs.Statements.{inserts_slip}
use Rattle.store_tables.proofs.Typed.{typed_slip}
use Rattle.store_tables.proofs.rows.insert_slip.Goals as goal

pub returns-clause-ok : goal.returns-clause-ok
returns-clause-ok g c clean rows inside =
    let old = state g.S.Store c.args.tx.now.conn.now in
    let new = state g.S.Store c.execute.new.self.conn.now in
    let low0 : IsU32 c.args.number = search rules in
    let low1 : IsU32 c.args.keep = search rules in
    let low2 : IsU32 c.args.gone = search rules in
    let ran = rw (
      c.params-to_sql.ensures,
      c.params-to_sql-2.ensures,
      c.params-to_sql-3.ensures,
      c.params-to_sql-4.ensures,
      c.flag-undone.ensures,
    ) at (c.in_ok-execute.ensures.runs clean inside.inside) in
    followed _ _ old new _ (with_slip_row c.args.number c.args.keep c.args.gone c.args.is_undone)
    (inserts_slip old new c.args.number c.args.keep c.args.gone c.args.is_undone c.in_ok-execute.field-0)
    (typed_slip c.args.number c.args.keep c.args.gone c.args.is_undone low0 low1 low2) ran rows inside
