use Rattle.std.proofs.Common.{◌≡◌, ◌∙◌, ap}
use Rattle.sqlite.specs.Held.{state}
use Rattle.archive_state.specs.Content.{Content}
use Rattle.archive_state.specs.Looks.{Looked}
use Rattle.store.specs.Standing.{asked_by, standing}
use Rattle.store_tables.proofs.Queries.{only_committed}
use Rattle.archive_output.proofs.Calls.{aside_stays, moved, reads_of}
use Rattle.archive_output.proofs.Exported.{stays_viewed}
use Rattle.archive_tables.specs.Ends.{OnRead}
use Rattle.archive_tables.proofs.Looked.{read_by}
use Rattle.archive_tables.specs.Making.{IsTried, Trial, trial_on}
use Rattle.archive_tables.proofs.making.try_page.Goals as goal

pub returns-clause-tried : goal.returns-clause-tried
returns-clause-tried g c =
    let was = c.args.archive.now in
    let first = c.set_aside-import.new.self in
    let last = c.trial-found.new.view in
    let right : Content → Trial = λ k. trial_on k c.args.token.now c.args.source c.args.entries.items in
    moved g.S.Store was.conn first.conn last.conn c.put_back.new.self.conn c.set_aside-import.ensures.conn
    c.put_back.ensures.conn
    (λ old new. OnRead old new (λ of. IsTried c.settled.result (right of)))
    (read_by c.trial-found.result (λ of. Looked c.trial-found.result (λ r. r ≡ right of))
    (λ of. IsTried c.settled.result (right of)) (state g.S.Store first.conn)
    (state g.S.Store last.conn) first.is_lost last.is_lost first.failures last.failures
    c.set_aside-import.ensures.counts
    (λ rows is t l. only_committed (state g.S.Store first.conn) rows t is
    (g.met.S.Store.settled first.conn.store t is.is_open l))
    c.trial-found.ensures.shows c.is_lost.result (c.is_lost.ensures ∙ c.put_back.ensures.lost)
    c.trial-found.ensures.counts (λ of sure agrees. c.settled.ensures.tried (right of) sure agrees))

pub returns-clause-reads : goal.returns-clause-reads
returns-clause-reads g c =
    let was = c.args.archive.now in
    let first = c.set_aside-import.new.self in
    let last = c.trial-found.new.view in
    let new = c.put_back.new.self in
    let right : Content → Trial = λ k. trial_on k c.args.token.now c.args.source c.args.entries.items in
    let same = c.put_back.ensures.back ∙ c.set_aside-import.ensures.aside in
    let stays = aside_stays g.S.Store was.conn first.conn last.conn new.conn last.is_lost new.is_lost
    c.set_aside-import.ensures.conn c.put_back.ensures.conn c.put_back.ensures.lost
    (stays_viewed (λ of. Looked c.trial-found.result (λ r. r ≡ right of)) (state g.S.Store first.conn)
    (state g.S.Store last.conn) first.is_lost last.is_lost first.failures last.failures
    c.set_aside-import.ensures.counts
    (λ rows is t l. only_committed (state g.S.Store first.conn) rows t is
    (g.met.S.Store.settled first.conn.store t is.is_open l))
    c.trial-found.ensures.shows) in
    reads_of g.S.Store was new
    (λ r. c.looks_are_a_call.ensures was.conn new.conn (standing r was.is_lost was.import)
    (standing r new.is_lost new.import) c.requires.kept (ap (asked_by r) same) stays)
    same stays
