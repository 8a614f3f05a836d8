use Rattle.std.proofs.Common.{arith}
use Rattle.store_tables.specs.Rows.{without_sought}
use Rattle.store_tables.proofs.Calls.{on_ok}
use Rattle.store_rows.specs.Sought.{sought_of, with_sought_if}
use Rattle.store_rows.proofs.Dated.{dated_then}
use Rattle.store_rows.proofs.writing.sought_rows.put_sought_of.Goals as goal

pub returns-clause-ok : goal.returns-clause-ok
returns-clause-ok g c clean =
    let n = c.args.number in
    let one = c.in_ok-delete_sought.ensures.ok (omega (arith, clean, c.insert_if.ensures.survives.clean)) in
    on_ok c.insert_if.result
    (λ two. dated_then _ _ _ (without_sought n) (with_sought_if n (sought_of c.args.«record».now))
    (λ rows has. has) one two) (c.insert_if.ensures.ok clean)
