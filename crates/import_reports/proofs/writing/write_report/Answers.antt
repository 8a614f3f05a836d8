use Rattle.std.proofs.Common.{◌∙◌, ap, sym}
use Rattle.std.specs.Prelude.{option_map, string_bytes}
use Rattle.sqlite.specs.Held.{state}
use Rattle.archive_state.specs.Looks.{Looked}
use Rattle.store.specs.Standing.{asked_by, standing}
use Rattle.store_tables.proofs.Queries.{only_committed}
use Rattle.archive_output.proofs.Calls.{aside_stays, moved, reads_of}
use Rattle.archive_output.proofs.Exported.{stays_viewed}
use Rattle.archive_tables.specs.Ends.{OnRead}
use Rattle.archive_tables.proofs.Looked.{read_by}
use Rattle.import_reports.specs.Reports.{IsForeseen}
use Rattle.import_reports.specs.Writing.{EndsReport}
use Rattle.import_reports.proofs.writing.write_report.Goals as goal

pub returns-clause-ended : goal.returns-clause-ended
returns-clause-ended g c =
    let was = c.args.archive.now in
    let first = c.set_aside-import.new.self in
    let last = c.report_on-found.new.view in
    let before = g.W.Write.contents c.args.out.now in
    let after = g.W.Write.contents c.write_found.new.out in
    let token = c.args.token.now in
    let forest = c.args.forest.now in
    moved g.S.Store was.conn first.conn last.conn c.put_back.new.self.conn c.set_aside-import.ensures.conn
    c.put_back.ensures.conn (λ old new. OnRead old new (EndsReport c.write_found.result before after token forest))
    (read_by c.report_on-found.result
    (λ of. Looked c.report_on-found.result (λ text. IsForeseen of token forest (option_map string_bytes text)))
    (EndsReport c.write_found.result before after token forest) (state g.S.Store first.conn)
    (state g.S.Store last.conn) first.is_lost last.is_lost first.failures last.failures
    c.set_aside-import.ensures.counts
    (λ rows is t l. only_committed (state g.S.Store first.conn) rows t is
    (g.met.S.Store.settled first.conn.store t is.is_open l))
    c.report_on-found.ensures.shows c.is_lost.result (c.is_lost.ensures ∙ c.put_back.ensures.lost)
    c.report_on-found.ensures.counts (λ of sure seen. c.write_found.ensures.ended of token forest sure seen))

pub returns-clause-lost : goal.returns-clause-lost
returns-clause-lost g c = sym c.is_lost.ensures ∙ sym c.write_found.ensures.lost

pub returns-clause-reads : goal.returns-clause-reads
returns-clause-reads g c =
    let was = c.args.archive.now in
    let first = c.set_aside-import.new.self in
    let last = c.report_on-found.new.view in
    let new = c.put_back.new.self in
    let same = c.put_back.ensures.back ∙ c.set_aside-import.ensures.aside in
    let stays = aside_stays g.S.Store was.conn first.conn last.conn new.conn last.is_lost new.is_lost
    c.set_aside-import.ensures.conn c.put_back.ensures.conn c.put_back.ensures.lost
    (stays_viewed (λ of. Looked c.report_on-found.result
    (λ text. IsForeseen of c.args.token.now c.args.forest.now (option_map string_bytes text)))
    (state g.S.Store first.conn)
    (state g.S.Store last.conn) first.is_lost last.is_lost first.failures last.failures
    c.set_aside-import.ensures.counts
    (λ rows is t l. only_committed (state g.S.Store first.conn) rows t is
    (g.met.S.Store.settled first.conn.store t is.is_open l))
    c.report_on-found.ensures.shows) in
    reads_of g.S.Store was new
    (λ r. c.looks_are_a_call.ensures was.conn new.conn (standing r was.is_lost was.import)
    (standing r new.is_lost new.import) c.requires.kept (ap (asked_by r) same) stays)
    same stays
