use Rattle.sqlite.specs.Held.{state}
use Rattle.store_tables.specs.Rows.{with_closed, with_next}
use Rattle.store_rows.specs.Writing.{with_kept_written}
use Rattle.staging.proofs.Cursors.{three}
use Rattle.staging.proofs.writing.publish.Goals as goal

pub returns-clause-ok : goal.returns-clause-ok
returns-clause-ok g c clean =
    let old = state g.S.Store c.args.tx.now.conn.now in
    let closed = state g.S.Store c.close_batch.new.tx.conn.now in
    let counted = state g.S.Store c.set_next.new.tx.conn.now in
    let new = state g.S.Store c.write_kept.new.tx.conn.now in
    three c.write_kept.result old closed counted new (with_closed c.args.batch) (with_next c.args.next)
    (with_kept_written c.args.kept.now) c.in_ok-set_next.ensures.survives c.write_kept.ensures.survives
    c.in_ok-close_batch.ensures.ok c.in_ok-set_next.ensures.ok c.write_kept.ensures.ok clean
