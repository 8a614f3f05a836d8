use Rattle.sqlite.specs.Held.{state}
use Rattle.store_tables.proofs.Calls.{is_inside, begins}
use Rattle.store_tables.proofs.creating.insert_meta.Goals as goal

pub returns-clause-ok : goal.returns-clause-ok
returns-clause-ok g c clean =
    let old = state g.S.Store c.args.tx.now.conn.now in
    let new = state g.S.Store c.execute.new.self.conn.now in
    let inside = is_inside old.in_transaction (λ out. let e = (c.in_ok-execute.ensures.ended out).0 in cc) in
    begins c.args.society.now old new c.in_ok-execute.field-0 c.as_str.ensures.text
    (rw (c.params-to_sql.ensures, c.as_str.ensures.same) at (c.in_ok-execute.ensures.runs clean inside))
