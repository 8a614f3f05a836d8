use Rattle.sqlite.specs.Held.{state}
use Rattle.store_tables.specs.Rows.{with_undone}
use Rattle.store_tables.proofs.Calls.{followed}
use Rattle.store_tables.proofs.Typed.{typed_undone}
use Rattle.store_tables.proofs.Updates.{undoes_slip}
use Rattle.store_tables.proofs.records.undo_slip.Goals as goal

pub returns-clause-ok : goal.returns-clause-ok
returns-clause-ok g c clean rows inside =
    let old = state g.S.Store c.args.tx.now.conn.now in
    let new = state g.S.Store c.execute.new.self.conn.now in
    let ran = rw (c.params-to_sql.ensures) at (c.in_ok-execute.ensures.runs clean inside.inside) in
    followed _ _ old new _ (with_undone c.args.number)
    (λ b has did. (undoes_slip old new c.args.number c.in_ok-execute.field-0 b has did).0)
    (typed_undone c.args.number) ran rows inside
