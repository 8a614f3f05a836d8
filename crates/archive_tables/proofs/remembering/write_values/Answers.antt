use Rattle.std.proofs.Common.{◌≡◌, ◌∙◌, ℕ, List, ap, sym}
use Rattle.std.specs.Prelude.{Option, option_map}
use Rattle.sqlite.specs.Held.{state}
use Rattle.archive_state.specs.Content.{Content}
use Rattle.archive_state.specs.Looks.{Looked}
use Rattle.histories.specs.History.{history}
use Rattle.store.specs.Standing.{asked_by, standing}
use Rattle.store_tables.proofs.Queries.{only_committed}
use Rattle.archive_output.proofs.Calls.{aside_stays, moved, reads_of}
use Rattle.archive_output.proofs.Exported.{stays_viewed}
use Rattle.archive_tables.specs.Ends.{EndsWriting, OnRead}
use Rattle.archive_tables.specs.Texts.{items_of}
use Rattle.archive_tables.proofs.Looked.{ended_by}
use Rattle.archive_tables.proofs.remembering.write_values.Goals as goal

pub returns-clause-ended : goal.returns-clause-ended
returns-clause-ended g c =
    let was = c.args.archive.now in
    let first = c.set_aside-import.new.self in
    let last = c.history-text.new.view in
    let before = g.W.Write.contents c.args.writer.now in
    let after = g.W.Write.contents c.write_found.new.writer in
    let right : Content → Option (List ℕ) = λ of. history c.args.answers of.records c.args.number c.args.values.now in
    moved g.S.Store was.conn first.conn last.conn c.put_back.new.self.conn c.set_aside-import.ensures.conn
    c.put_back.ensures.conn (λ old new. OnRead old new (λ of. EndsWriting c.write_found.result before after (right of)))
    (ended_by items_of c.history-text.result right (state g.S.Store first.conn) (state g.S.Store last.conn)
    first.is_lost last.is_lost first.failures last.failures c.set_aside-import.ensures.counts
    (λ rows is t l. only_committed (state g.S.Store first.conn) rows t is
    (g.met.S.Store.settled first.conn.store t is.is_open l))
    c.history-text.ensures.shows c.write_found.result before after c.is_lost.result
    (c.is_lost.ensures ∙ c.put_back.ensures.lost) c.history-text.ensures.counts c.write_found.ensures.ended)

pub returns-clause-lost : goal.returns-clause-lost
returns-clause-lost g c = sym c.is_lost.ensures ∙ sym c.write_found.ensures.lost

pub returns-clause-reads : goal.returns-clause-reads
returns-clause-reads g c =
    let was = c.args.archive.now in
    let first = c.set_aside-import.new.self in
    let last = c.history-text.new.view in
    let new = c.put_back.new.self in
    let right : Content → Option (List ℕ) = λ of. history c.args.answers of.records c.args.number c.args.values.now in
    let same = c.put_back.ensures.back ∙ c.set_aside-import.ensures.aside in
    let stays = aside_stays g.S.Store was.conn first.conn last.conn new.conn last.is_lost new.is_lost
    c.set_aside-import.ensures.conn c.put_back.ensures.conn c.put_back.ensures.lost
    (stays_viewed (λ of. Looked c.history-text.result (λ text. option_map items_of text ≡ right of))
    (state g.S.Store first.conn) (state g.S.Store last.conn) first.is_lost last.is_lost first.failures last.failures
    c.set_aside-import.ensures.counts
    (λ rows is t l. only_committed (state g.S.Store first.conn) rows t is
    (g.met.S.Store.settled first.conn.store t is.is_open l))
    c.history-text.ensures.shows) in
    reads_of g.S.Store was new
    (λ r. c.looks_are_a_call.ensures was.conn new.conn (standing r was.is_lost was.import)
    (standing r new.is_lost new.import) c.requires.kept (ap (asked_by r) same) stays)
    same stays
