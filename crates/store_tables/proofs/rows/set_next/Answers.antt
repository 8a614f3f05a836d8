use Rattle.std.proofs.Common.{rules, ◌≡◌, ◌∙◌, pos, w64, SFits, to_z, of_z}
use Rattle.std.proofs.lemmas.Int.{to_z-of_z}
use Rattle.sqlite.specs.Held.{state}
use Rattle.store_tables.specs.Rows.{with_next}
use Rattle.store_tables.proofs.Calls.{followed}
use Rattle.store_tables.proofs.Statements.{sets_next}
use Rattle.store_tables.proofs.Typed.{typed_next}
use Rattle.store_tables.proofs.rows.set_next.Goals as goal

pub returns-clause-ok : goal.returns-clause-ok
returns-clause-ok g c clean rows inside =
    let old = state g.S.Store c.args.tx.now.conn.now in
    let new = state g.S.Store c.execute.new.self.conn.now in
    let whole : c.in-Ok.next ≡ pos c.args.next = search rules in
    let fits : SFits w64 c.in-Ok.next = search rules in
    let back : to_z w64 (of_z w64 c.in-Ok.next) ≡ pos c.args.next = to_z-of_z w64 c.in-Ok.next fits ∙ whole in
    let ran = rw (c.params-to_sql.ensures, back) at (c.in_ok-execute.ensures.runs clean inside.inside) in
    followed _ _ old new _ (with_next c.args.next) (sets_next old new c.args.next c.in_ok-execute.field-0)
    (typed_next c.args.next) ran rows inside
