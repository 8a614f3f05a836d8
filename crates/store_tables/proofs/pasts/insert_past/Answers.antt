use Rattle.std.proofs.Common.{Ok, pos, [], ◌∷◌}
use Rattle.sqlite.specs.Held.{state}
use Rattle.sqlite.specs.State.{ExecutesInside}
use Rattle.sqlite.specs.declared.types.Value.TheVariants.{Int, Text}
use Rattle.store_tables.specs.Rows.{with_past}
use Rattle.store_tables.proofs.LaterStatements.{followed_dated}
use Rattle.store_tables.proofs.LaterTyped.{typed_past}
use Rattle.store_tables.proofs.PastStatements.{inserts_past}
use Rattle.store_tables.proofs.PastTexts.{insert_past}
use Rattle.store_tables.proofs.pasts.insert_past.Goals as goal

pub returns-clause-ok : goal.returns-clause-ok
returns-clause-ok g c clean rows dated inside =
    let old = state g.S.Store c.args.tx.now.conn.now in
    let new = state g.S.Store c.execute.new.self.conn.now in
    let ran : ExecutesInside 0 insert_past
    (Int (pos c.args.number) ∷ Text c.args.token.now ∷ Text c.args.text.now ∷ []) old new
    (Ok c.in_ok-execute.field-0) = rw (
      c.params-to_sql.ensures,
      c.params-to_sql-2.ensures,
      c.params-to_sql-3.ensures,
      c.as_str.ensures.same,
    ) at (c.in_ok-execute.ensures.runs clean inside.inside) in
    followed_dated _ _ old new _ (with_past c.args.number c.args.token.now c.args.text.now)
    (inserts_past old new c.args.number c.args.token.now c.args.text.now c.in_ok-execute.field-0)
    (λ rows _. typed_past c.args.number c.args.token.now c.args.text.now rows) ran rows dated inside
