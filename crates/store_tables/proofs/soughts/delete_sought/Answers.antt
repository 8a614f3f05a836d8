use Rattle.sqlite.specs.Held.{state}
use Rattle.store_tables.specs.Rows.{without_sought}
use Rattle.store_tables.proofs.LaterStatements.{followed_dated}
use Rattle.store_tables.proofs.LaterTyped.{typed_less_sought}
use Rattle.store_tables.proofs.SoughtStatements.{deletes_sought}
use Rattle.store_tables.proofs.soughts.delete_sought.Goals as goal

pub returns-clause-ok : goal.returns-clause-ok
returns-clause-ok g c clean rows dated inside =
    let old = state g.S.Store c.args.tx.now.conn.now in
    let new = state g.S.Store c.execute.new.self.conn.now in
    let ran = rw (c.params-to_sql.ensures) at (c.in_ok-execute.ensures.runs clean inside.inside) in
    followed_dated _ _ old new _ (without_sought c.args.number)
    (deletes_sought old new c.args.number c.in_ok-execute.field-0)
    (λ rows _. typed_less_sought c.args.number rows) ran rows dated inside
