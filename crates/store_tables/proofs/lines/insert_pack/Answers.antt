use Rattle.std.proofs.Common.{rules, Ok, pos, [], ◌∷◌, ◌≡◌, ap, sym, subst}
use Rattle.std.specs.Str.{IsUtf8}
use Rattle.sqlite.specs.Held.{state}
use Rattle.sqlite.specs.State.{ExecutesInside}
use Rattle.sqlite.specs.declared.types.Value.TheVariants.{Int, Text}
use Rattle.packed_rows.specs.Packed.{packed}
use Rattle.store_tables.specs.Reading.{HaveTop, IsU32}
use Rattle.store_tables.specs.Rows.{first_tag, first_target, number_or_null, with_pack}
use Rattle.store_tables.proofs.Calls.{followed, number_bound}
use Rattle.store_tables.proofs.LaterTyped.{typed_pack}
use Rattle.store_tables.proofs.LineStatements.{inserts_pack}
use Rattle.store_tables.proofs.PackTexts.{insert_pack}
use Rattle.store_tables.proofs.lines.insert_pack.Goals as goal

pub returns-clause-ok : goal.returns-clause-ok
returns-clause-ok g c clean rows inside =
    let old = state g.S.Store c.args.tx.now.conn.now in
    let new = state g.S.Store c.execute.new.self.conn.now in
    let ls = c.args.lines.now in
    let first = c.args.first.now in
    let top = c.requires.top in
    let low : IsU32 c.args.number = search rules in
    let tag : first.1.tag ≡ first_tag ls = ap first_tag (sym top.2) in
    let target : first.1.target ≡ first_target ls = ap first_target (sym top.2) in
    let begins : HaveTop ls = subst HaveTop (sym top.2) top.0 in
    let utf8 : IsUtf8 (packed ls) = subst IsUtf8 c.requires.packed (search rules) in
    let ran : ExecutesInside 0 insert_pack
    (Int (pos c.args.number) ∷ Text (first_tag ls) ∷ Text (packed ls) ∷ number_or_null (first_target ls) ∷ []) old new
    (Ok c.in_ok-execute.field-0) = rw (← tag, ← target, ← c.requires.packed)
    (rw (← c.first.view_is)
    (rw (
      c.params-to_sql.ensures,
      c.params-to_sql-2.ensures,
      c.params-to_sql-3.ensures,
      c.params-to_sql-4.ensures,
      number_bound c.named-target.result,
      c.as_str-tag.ensures.same,
      c.named-target.ensures.same,
    ) at (c.in_ok-execute.ensures.runs clean inside.inside))) in
    followed _ _ old new _ (with_pack c.args.number ls)
    (inserts_pack old new c.args.number ls c.in_ok-execute.field-0)
    (typed_pack c.args.number ls low begins c.requires.typed utf8) ran rows inside
