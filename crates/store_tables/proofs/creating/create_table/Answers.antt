use Rattle.sqlite.specs.Held.{state}
use Rattle.store_tables.proofs.Calls.{is_inside, builds_table}
use Rattle.store_tables.proofs.creating.create_table.Goals as goal

pub returns-clause-ok : goal.returns-clause-ok
returns-clause-ok g c clean schema table is =
    let old = state g.S.Store c.args.tx.now.conn.now in
    let new = state g.S.Store c.execute.new.self.conn.now in
    let inside = is_inside old.in_transaction (λ out. let e = (c.in_ok-execute.ensures.ended out).0 in cc) in
    builds_table schema table c.args.text.now old new c.in_ok-execute.field-0 is
    (c.in_ok-execute.ensures.runs clean inside)
