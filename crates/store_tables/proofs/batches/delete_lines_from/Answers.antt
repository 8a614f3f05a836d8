use Rattle.sqlite.specs.Held.{state}
use Rattle.store_tables.specs.Rows.{without_lines_from}
use Rattle.store_tables.proofs.LineStatements.{deletes_lines_from}
use Rattle.store_tables.proofs.Calls.{followed}
use Rattle.store_tables.proofs.Typed.{typed_less_lines_from}
use Rattle.store_tables.proofs.batches.delete_lines_from.Goals as goal

pub returns-clause-ok : goal.returns-clause-ok
returns-clause-ok g c clean rows inside =
    let old = state g.S.Store c.args.tx.now.conn.now in
    let new = state g.S.Store c.execute.new.self.conn.now in
    let ran = rw (c.params-to_sql.ensures, c.params-to_sql-2.ensures) at
    (c.in_ok-execute.ensures.runs clean inside.inside) in
    followed _ _ old new _ (without_lines_from c.args.number c.args.place)
    (deletes_lines_from old new c.args.number c.args.place c.in_ok-execute.field-0)
    (typed_less_lines_from c.args.number c.args.place) ran rows inside
