use Rattle.std.proofs.Common.{rules, IfSome, Ok, pos, [], ◌∷◌}
use Rattle.sqlite.specs.Held.{state}
use Rattle.sqlite.specs.State.{ExecutesInside}
use Rattle.sqlite.specs.declared.types.Value.TheVariants.{Int, Text}
use Rattle.store_tables.specs.Reading.{IsU32}
use Rattle.store_tables.specs.Rows.{number_or_null, with_sought}
use Rattle.store_tables.proofs.Calls.{number_bound}
use Rattle.store_tables.proofs.LaterStatements.{followed_dated}
use Rattle.store_tables.proofs.LaterTyped.{typed_sought}
use Rattle.store_tables.proofs.SoughtStatements.{inserts_sought}
use Rattle.store_tables.proofs.SoughtTexts.{insert_sought}
use Rattle.store_tables.proofs.soughts.insert_sought.Goals as goal

pub returns-clause-ok : goal.returns-clause-ok
returns-clause-ok g c clean rows dated inside =
    let old = state g.S.Store c.args.tx.now.conn.now in
    let new = state g.S.Store c.execute.new.self.conn.now in
    let low : IsU32 c.args.number = search rules in
    let other : IfSome c.args.target IsU32 = search rules in
    let ran : ExecutesInside 0 insert_sought
    (Int (pos c.args.number) ∷ Text c.args.text.now ∷ number_or_null c.args.target ∷ []) old new
    (Ok c.in_ok-execute.field-0) = rw (
      c.params-to_sql.ensures,
      c.params-to_sql-2.ensures,
      c.params-to_sql-3.ensures,
      c.as_str.ensures.same,
      number_bound c.args.target,
    ) at (c.in_ok-execute.ensures.runs clean inside.inside) in
    followed_dated _ _ old new _ (with_sought c.args.number c.args.text.now c.args.target)
    (inserts_sought old new c.args.number c.args.text.now c.args.target c.in_ok-execute.field-0)
    (λ rows _. typed_sought c.args.number c.args.text.now c.args.target low c.as_str.ensures.text other rows) ran rows
    dated inside
