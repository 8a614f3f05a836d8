use Rattle.std.proofs.Common.{rules, ◌≡◌, ◌∙◌}
use Rattle.std.specs.Prelude.{FitsSigned}
use Rattle.std.specs.Int.{w64, cast_signed, cast_unsigned}
use mir.Facts.{to_z-of_z}
use Rattle.sqlite.specs.Held.{state}
use Rattle.store_tables.specs.Rows.{integer_at, pair_place}
use Rattle.store_tables.specs.Sides.{without_slip_sides}
use Rattle.store_tables.proofs.LaterStatements.{followed_dated}
use Rattle.store_tables.proofs.SideStatements.{deletes_sides_by}
use Rattle.store_tables.proofs.SideTyped.{typed_less_sides}
use Rattle.store_tables.proofs.sides.delete_sides.Goals as goal

pub returns-clause-ok : goal.returns-clause-ok
returns-clause-ok g c clean rows dated inside =
    let old = state g.S.Store c.args.tx.now.conn.now in
    let new = state g.S.Store c.execute.new.self.conn.now in
    let n = c.args.slip in
    let first = cast_signed w64 (cast_unsigned w64 c.integer_of-first.result) in
    let last = cast_signed w64 (cast_unsigned w64 c.integer_of-last.result) in
    let first_fits : FitsSigned w64 c.integer_of-first.result = search rules in
    let last_fits : FitsSigned w64 c.integer_of-last.result = search rules in
    let is_first : first ≡ integer_at (pair_place n 0) = to_z-of_z first_fits ∙ c.integer_of-first.ensures in
    let is_last : last ≡ integer_at (pair_place n 4294967295) = to_z-of_z last_fits ∙ c.integer_of-last.ensures in
    let ran = rw (c.params-to_sql.ensures, c.params-to_sql-2.ensures) at
    (c.in_ok-execute.ensures.runs clean inside.inside) in
    followed_dated _ _ old new _ (without_slip_sides n)
    (deletes_sides_by old new n c.in_ok-execute.field-0 first last is_first is_last)
    (λ rows _. typed_less_sides n rows) ran rows dated inside
