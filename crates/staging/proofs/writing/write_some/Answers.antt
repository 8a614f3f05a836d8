use Rattle.std.proofs.Common.{ap, ◌∙◌}
use Rattle.sqlite.specs.Held.{state}
use Rattle.staging.specs.Opened.{left_of}
use Rattle.staging.proofs.Cursors.{records_behind, records_written}
use Rattle.staging.proofs.writing.write_some.Goals as goal

pub returns-then-cursor-puts-clause-ok : goal.returns-then-cursor-puts-clause-ok
returns-then-cursor-puts-clause-ok g c clean =
    records_written c.args.batch c.args.puts.now c.args.later.now c.args.cursor.now c.in_ok-written.written
    c.in_ok-written.ensures.few.2 (state g.S.Store c.args.tx.now.conn.now)
    (state g.S.Store c.write_records.new.tx.conn.now) (c.in_ok-written.ensures.ok clean)

pub returns-then-cursor-puts-clause-left : goal.returns-then-cursor-puts-clause-left
returns-then-cursor-puts-clause-left g c =
    ap (left_of c.args.batch c.args.puts.now c.args.later.now) c.in_ok-written.ensures.next
    ∙ records_behind c.args.batch c.args.puts.now c.args.later.now c.args.cursor.now c.in_ok-written.written
    c.in_ok-written.ensures.few.2
