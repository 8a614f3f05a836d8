use Rattle.sqlite.specs.Held.{state}
use Rattle.store_tables.specs.Rows.{without_span}
use Rattle.store_tables.proofs.LaterStatements.{followed_dated}
use Rattle.store_tables.proofs.SpanStatements.{deletes_span}
use Rattle.store_tables.proofs.SpanTyped.{typed_less_span}
use Rattle.store_tables.proofs.spans.delete_span.Goals as goal

pub returns-clause-ok : goal.returns-clause-ok
returns-clause-ok g c clean rows dated inside =
    let old = state g.S.Store c.args.tx.now.conn.now in
    let new = state g.S.Store c.execute.new.self.conn.now in
    let ran = rw (c.params-to_sql.ensures) at (c.in_ok-execute.ensures.runs clean inside.inside) in
    followed_dated _ _ old new _ (without_span c.args.number)
    (deletes_span old new c.args.number c.in_ok-execute.field-0)
    (λ rows _. typed_less_span c.args.number rows) ran rows dated inside
