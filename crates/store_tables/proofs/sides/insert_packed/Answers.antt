use Rattle.std.proofs.Common.{rules, Ok, ◌≡◌, ◌∙◌, ap, sym, subst}
use Rattle.std.specs.Prelude.{FitsSigned}
use Rattle.std.specs.Int.{w64, cast_signed, cast_unsigned}
use mir.Facts.{to_z-of_z}
use Rattle.std.specs.Str.{IsUtf8}
use Rattle.sqlite.specs.Held.{state}
use Rattle.sqlite.specs.State.{ExecutesInside}
use Rattle.packed_rows.specs.Packed.{packed}
use Rattle.store_tables.specs.Reading.{HaveTop, IsU32}
use Rattle.store_tables.specs.Rows.{SlipSide, first_tag, first_target, integer_at, pair_place}
use Rattle.store_tables.specs.Sides.{with_slip_side}
use Rattle.store_tables.proofs.Calls.{number_bound}
use Rattle.store_tables.proofs.LaterStatements.{followed_dated}
use Rattle.store_tables.proofs.SideStatements.{inserts_side_by, side_params}
use Rattle.store_tables.proofs.SideTexts.{insert_side}
use Rattle.store_tables.proofs.SideTyped.{typed_side}
use Rattle.store_tables.proofs.sides.insert_packed.Goals as goal

pub returns-clause-ok : goal.returns-clause-ok
returns-clause-ok g c clean rows dated inside =
    let old = state g.S.Store c.args.tx.now.conn.now in
    let new = state g.S.Store c.execute.new.self.conn.now in
    let ls = c.args.lines.now in
    let n = c.args.slip in
    let at = c.args.at in
    let side : SlipSide = (c.args.is_new, (c.args.number, ls)) in
    let first = c.args.first.now in
    let top = c.requires.top in
    let low : IsU32 n = search rules in
    let place : IsU32 at = search rules in
    let number : IsU32 c.args.number = search rules in
    let tag : first.1.tag ≡ first_tag ls = ap first_tag (sym top.2) in
    let target : first.1.target ≡ first_target ls = ap first_target (sym top.2) in
    let begins : HaveTop ls = subst HaveTop (sym top.2) top.0 in
    let utf8 : IsUtf8 (packed ls) = subst IsUtf8 c.requires.packed (search rules) in
    let integer = cast_signed w64 (cast_unsigned w64 c.integer_of-integer.result) in
    let fits : FitsSigned w64 c.integer_of-integer.result = search rules in
    let is : integer ≡ integer_at (pair_place n at) = to_z-of_z fits ∙ c.integer_of-integer.ensures in
    let ran : ExecutesInside 0 insert_side (side_params integer n side) old new (Ok c.in_ok-execute.field-0) =
    rw (← tag, ← target, ← c.requires.packed)
    (rw (← c.first.view_is)
    (rw (
      c.params-to_sql.ensures,
      c.params-to_sql-2.ensures,
      c.params-to_sql-3.ensures,
      c.params-to_sql-4.ensures,
      c.params-to_sql-5.ensures,
      c.params-to_sql-6.ensures,
      c.params-to_sql-7.ensures,
      number_bound c.named-target.result,
      c.flag-side.ensures,
      c.as_str-tag.ensures.same,
      c.named-target.ensures.same,
    ) at (c.in_ok-execute.ensures.runs clean inside.inside))) in
    followed_dated _ _ old new _ (with_slip_side n at side)
    (inserts_side_by old new n at side c.in_ok-execute.field-0 integer is)
    (λ rows _. typed_side n at side low place number begins c.requires.typed utf8 rows) ran rows dated inside
