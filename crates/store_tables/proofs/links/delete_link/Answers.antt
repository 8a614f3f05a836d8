use Rattle.std.proofs.Common.{rules, ◌≡◌, ◌∙◌}
use Rattle.std.specs.Prelude.{FitsSigned}
use Rattle.std.specs.Int.{w64, cast_signed, cast_unsigned}
use mir.Facts.{to_z-of_z}
use Rattle.sqlite.specs.Held.{state}
use Rattle.store_tables.specs.Reading.{IsU32}
use Rattle.store_tables.specs.Rows.{integer_at, pair_place, without_link}
use Rattle.store_tables.proofs.LaterStatements.{followed_dated}
use Rattle.store_tables.proofs.LaterTyped.{typed_less_link}
use Rattle.store_tables.proofs.LinkStatements.{deletes_by}
use Rattle.store_tables.proofs.links.delete_link.Goals as goal

pub returns-clause-ok : goal.returns-clause-ok
returns-clause-ok g c clean rows dated inside =
    let old = state g.S.Store c.args.tx.now.conn.now in
    let new = state g.S.Store c.execute.new.self.conn.now in
    let low : IsU32 c.args.number = search rules in
    let integer = c.integer_of-integer.result in
    let fits : FitsSigned w64 integer = search rules in
    let is : cast_signed w64 (cast_unsigned w64 integer) ≡ integer_at (pair_place c.args.target c.args.number) =
    to_z-of_z fits ∙ c.integer_of-integer.ensures in
    let ran = rw (c.params-to_sql.ensures) at (c.in_ok-execute.ensures.runs clean inside.inside) in
    followed_dated _ _ old new _ (without_link c.args.target c.args.number)
    (deletes_by old new c.args.target c.args.number c.in_ok-execute.field-0 _ is low)
    (λ rows _. typed_less_link c.args.target c.args.number rows) ran rows dated inside
