use Rattle.std.proofs.Common.{rules}
use Rattle.sqlite.specs.Held.{state}
use Rattle.store_tables.specs.Reading.{IsU32}
use Rattle.store_tables.specs.Rows.{record_at}
use Rattle.store_tables.proofs.Calls.{followed}
use Rattle.store_tables.proofs.Typed.{typed_record_at}
use Rattle.store_tables.proofs.Updates.{updates_record}
use Rattle.store_tables.proofs.records.update_record.Goals as goal

pub returns-clause-ok : goal.returns-clause-ok
returns-clause-ok g c clean rows inside =
    let old = state g.S.Store c.args.tx.now.conn.now in
    let new = state g.S.Store c.execute.new.self.conn.now in
    let low : IsU32 c.args.batch = search rules in
    let ran = rw (c.params-to_sql.ensures, c.params-to_sql-2.ensures, c.params-to_sql-3.ensures) at
    (c.in_ok-changed.ensures.runs clean inside.inside) in
    followed _ _ old new _ (record_at c.args.number c.args.kind.now c.args.batch)
    (λ b has did. (updates_record old new c.args.number c.args.kind.now c.args.batch
    c.in_ok-changed.changed b has did).0)
    (typed_record_at c.args.number c.args.kind.now c.args.batch low) ran rows inside

pub returns-clause-counts : goal.returns-clause-counts
returns-clause-counts g c clean rows inside =
    let old = state g.S.Store c.args.tx.now.conn.now in
    let new = state g.S.Store c.execute.new.self.conn.now in
    let ran = rw (c.params-to_sql.ensures, c.params-to_sql-2.ensures, c.params-to_sql-3.ensures) at
    (c.in_ok-changed.ensures.runs clean inside.inside) in
    (updates_record old new c.args.number c.args.kind.now c.args.batch c.in_ok-changed.changed rows.has_spans
    inside.schema ran.0).1
    rows inside.good.holds
