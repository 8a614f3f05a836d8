use Rattle.sqlite.specs.Held.{state}
use Rattle.store_tables.specs.Rows.{with_version}
use Rattle.store_tables.proofs.LaterStatements.{followed_dated}
use Rattle.store_tables.proofs.SpanStatements.{sets_version}
use Rattle.store_tables.proofs.SpanTyped.{typed_second}
use Rattle.store_tables.proofs.spans.set_version.Goals as goal

pub returns-clause-ok : goal.returns-clause-ok
returns-clause-ok g c clean rows dated inside =
    let old = state g.S.Store c.args.tx.now.conn.now in
    let new = state g.S.Store c.execute.new.self.conn.now in
    followed_dated _ _ old new _ (with_version 2) (sets_version old new c.in_ok-execute.field-0) typed_second
    (c.in_ok-execute.ensures.runs clean inside.inside) rows dated inside
