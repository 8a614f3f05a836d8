use Rattle.std.proofs.Common.{◌∙◌, ap, sym}
use Rattle.sqlite.specs.Held.{state}
use Rattle.archive_state.specs.Content.{Content}
use Rattle.archive_state.specs.Looks.{Agrees, is_stop}
use Rattle.archive_tables.proofs.Checked.{never_written_by}
use Rattle.store.specs.Standing.{asked_by, standing}
use Rattle.store_tables.proofs.Queries.{only_committed}
use Rattle.archive_output.proofs.Calls.{aside_stays, moved, reads_of}
use Rattle.archive_output.proofs.Exported.{stays_viewed}
use Rattle.archive_tables.specs.Checks.{EndsChecking, Right, check_by}
use Rattle.archive_tables.specs.Ends.{OnRead}
use Rattle.archive_tables.proofs.Looked.{read_by}
use Rattle.archive_tables.proofs.checking.write_check.Goals as goal

pub returns-clause-ended : goal.returns-clause-ended
returns-clause-ended g c =
    let was = c.args.archive.now in
    let first = c.set_aside-import.new.self in
    let last = c.check_sourced-found.new.view in
    let before = g.W.Write.contents c.args.writer.now in
    let after = g.W.Write.contents c.write_checked.new.writer in
    let right : Content → Right = λ k. check_by k c.args.source.now c.args.order c.args.makes c.args.bytes.now in
    moved g.S.Store was.conn first.conn last.conn c.put_back.new.self.conn c.set_aside-import.ensures.conn
    c.put_back.ensures.conn
    (λ old new. OnRead old new (λ of. EndsChecking c.write_checked.result before after (right of)))
    (read_by c.check_sourced-found.result (λ of. Agrees is_stop c.check_sourced-found.result (right of))
    (λ of. EndsChecking c.write_checked.result before after (right of)) (state g.S.Store first.conn)
    (state g.S.Store last.conn) first.is_lost last.is_lost first.failures last.failures
    c.set_aside-import.ensures.counts
    (λ rows is t l. only_committed (state g.S.Store first.conn) rows t is
    (g.met.S.Store.settled first.conn.store t is.is_open l))
    c.check_sourced-found.ensures.decides c.is_lost.result (c.is_lost.ensures ∙ c.put_back.ensures.lost)
    c.check_sourced-found.ensures.counts
    (λ of sure agrees. c.write_checked.ensures.ended (right of) sure agrees
    (never_written_by of c.args.source.now c.args.order c.args.makes c.args.bytes.now)))

pub returns-clause-lost : goal.returns-clause-lost
returns-clause-lost g c = sym c.is_lost.ensures ∙ sym c.write_checked.ensures.lost

pub returns-clause-reads : goal.returns-clause-reads
returns-clause-reads g c =
    let was = c.args.archive.now in
    let first = c.set_aside-import.new.self in
    let last = c.check_sourced-found.new.view in
    let new = c.put_back.new.self in
    let right : Content → Right = λ k. check_by k c.args.source.now c.args.order c.args.makes c.args.bytes.now in
    let same = c.put_back.ensures.back ∙ c.set_aside-import.ensures.aside in
    let stays = aside_stays g.S.Store was.conn first.conn last.conn new.conn last.is_lost new.is_lost
    c.set_aside-import.ensures.conn c.put_back.ensures.conn c.put_back.ensures.lost
    (stays_viewed (λ of. Agrees is_stop c.check_sourced-found.result (right of)) (state g.S.Store first.conn)
    (state g.S.Store last.conn) first.is_lost last.is_lost first.failures last.failures
    c.set_aside-import.ensures.counts
    (λ rows is t l. only_committed (state g.S.Store first.conn) rows t is
    (g.met.S.Store.settled first.conn.store t is.is_open l))
    c.check_sourced-found.ensures.decides) in
    reads_of g.S.Store was new
    (λ r. c.looks_are_a_call.ensures was.conn new.conn (standing r was.is_lost was.import)
    (standing r new.is_lost new.import) c.requires.kept (ap (asked_by r) same) stays)
    same stays
