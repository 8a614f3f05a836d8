use Rattle.std.proofs.Common.{rules, IfSome, Ok, pos, [], ◌∷◌}
use Rattle.sqlite.specs.Held.{state}
use Rattle.sqlite.specs.State.{ExecutesInside}
use Rattle.sqlite.specs.declared.types.Value.TheVariants.{Int}
use Rattle.store_tables.specs.Reading.{IsDay, IsU32}
use Rattle.store_tables.specs.Rows.{day_or_null, with_span}
use Rattle.store_tables.proofs.LaterStatements.{followed_dated}
use Rattle.store_tables.proofs.SpanStatements.{day_bound, inserts_span}
use Rattle.store_tables.proofs.SpanTexts.{insert_span}
use Rattle.store_tables.proofs.SpanTyped.{typed_span}
use Rattle.store_tables.proofs.spans.insert_span.Goals as goal

pub returns-clause-ok : goal.returns-clause-ok
returns-clause-ok g c clean rows dated inside =
    let old = state g.S.Store c.args.tx.now.conn.now in
    let new = state g.S.Store c.execute.new.self.conn.now in
    let low : IsU32 c.args.number = search rules in
    let first : IfSome c.args.lo IsDay = search rules in
    let last : IfSome c.args.hi IsDay = search rules in
    let ran : ExecutesInside 0 insert_span
    (Int (pos c.args.number) ∷ day_or_null c.args.lo ∷ day_or_null c.args.hi ∷ []) old new
    (Ok c.in_ok-execute.field-0) = rw (
      c.params-to_sql.ensures,
      c.params-to_sql-2.ensures,
      c.params-to_sql-3.ensures,
      day_bound c.args.lo,
      day_bound c.args.hi,
    ) at (c.in_ok-execute.ensures.runs clean inside.inside) in
    followed_dated _ _ old new _ (with_span c.args.number c.args.lo c.args.hi)
    (inserts_span old new c.args.number c.args.lo c.args.hi c.in_ok-execute.field-0)
    (λ rows _. typed_span c.args.number c.args.lo c.args.hi low first last rows) ran rows dated inside
