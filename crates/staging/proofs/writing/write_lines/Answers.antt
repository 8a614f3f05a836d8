use Rattle.std.proofs.Common.{subst, ◌∙◌}
use Rattle.sqlite.specs.Held.{state}
use Rattle.store_tables.specs.Calls.{Follows}
use Rattle.store_tables.specs.Rows.{with_pack}
use Rattle.staging.proofs.writing.write_lines.Goals as goal

pub returns-clause-ok : goal.returns-clause-ok
returns-clause-ok g c clean =
    let old = state g.S.Store c.args.tx.now.conn.now in
    let new = state g.S.Store c.insert_lines.new.tx.conn.now in
    let n = c.args.put.now.number in
    subst (λ ls. Follows old new (with_pack n ls)) (c.deref.ensures.value ∙ c.in_ok-lines.ensures.kept)
    (c.in_ok-insert_lines.ensures.ok clean)
