use Rattle.std.proofs.Common.{arith, ◌∙◌, subst}
use Rattle.sqlite.specs.Held.{state}
use Rattle.sqlite.specs.State.{HasCleanDisk}
use Rattle.store_tables.specs.Calls.{Inside}
use Rattle.store_tables.specs.Rows.{with_record_row}
use Rattle.store_tables.proofs.Updates.{put_new, put_again}
use Rattle.store_tables.proofs.records.put_record.Goals as goal

pub returns-in_ok-insert_record-clause-ok : goal.returns-in_ok-insert_record-clause-ok
returns-in_ok-insert_record-clause-ok g c clean rows inside =
    let new = state g.S.Store c.insert_record.new.tx.conn.now in
    let n = c.args.number in
    let early : HasCleanDisk (state g.S.Store c.update_record.new.tx.conn.now) = omega
    (arith, c.insert_record.ensures.survives.clean) in
    let one = c.in_ok-changed.ensures.ok early rows inside in
    let same = put_new n c.args.kind.now c.args.batch c.in_ok-changed.changed rows _ inside.good.holds
    (c.in_ok-changed.ensures.counts early rows inside) c.if-changed-eq0.true in
    let two = c.in_ok-insert_record.ensures.ok clean _ one.0 in
    (subst (λ r. Inside new (with_record_row n c.args.kind.now c.args.batch r)) same two.0, two.1 ∙ one.1)

pub returns-else-changed-eq0-clause-ok : goal.returns-else-changed-eq0-clause-ok
returns-else-changed-eq0-clause-ok g c clean rows inside =
    let new = state g.S.Store c.update_record.new.tx.conn.now in
    let one = c.in_ok-changed.ensures.ok clean rows inside in
    let same = put_again c.args.number c.args.kind.now c.args.batch c.in_ok-changed.changed rows _ inside.good.holds
    (c.in_ok-changed.ensures.counts clean rows inside) c.if-changed-eq0.false in
    (subst (Inside new) same one.0, one.1)
