use Rattle.std.proofs.Common.{◌≡◌, ◌∙◌, false, string_bytes, sym}
use Rattle.sqlite.specs.Held.{state}
use Rattle.archive_output.proofs.Asked.{unread_as}
use Rattle.archive_output.proofs.Calls.{reads_any, want_alone}
use Rattle.store.specs.Histories.{is_storage}
use Rattle.archive_output.proofs.Finds.{read, told_of_held}
use Rattle.archive_output.proofs.finding.told_by.Goals as goal
use Rattle.archive_output.proofs.Stopped.{want_fails}
use Rattle.archive_state.proofs.Stops.{want_stops}

pub returns-in-Ok-clause-told : goal.returns-in-Ok-clause-told
returns-in-Ok-clause-told g c =
    told_of_held (state g.S.Store c.args.archive.now.conn) (state g.S.Store c.state.new.self.conn) c.in-Ok.state
    (λ clean. c.in-Ok.ensures.reads clean c.requires.kept) string_bytes c.args.found.now c.told_text.result
    c.told_text.ensures.text

pub returns-in-Ok-clause-untold : goal.returns-in-Ok-clause-untold
returns-in-Ok-clause-untold g c =
    let old = state g.S.Store c.args.archive.now.conn in
    let new = state g.S.Store c.state.new.self.conn in
    want_fails c.told_text.result old new _
    (read old new c.in-Ok.state (λ clean. c.in-Ok.ensures.reads clean c.requires.kept)) c.told_text.ensures.refused

pub returns-in-Ok-clause-stops : goal.returns-in-Ok-clause-stops
returns-in-Ok-clause-stops g c = want_stops c.told_text.result c.told_text.ensures.refused

pub returns-in-Err-clause-untold : goal.returns-in-Err-clause-untold
returns-in-Err-clause-untold g c =
    unread_as (λ _ of found. found ≡ of) (state g.S.Store c.args.archive.now.conn)
    (state g.S.Store c.state.new.self.conn) c.in-Err.kind c.read_refusal.result c.read_refusal.ensures.same
    (λ clean. c.in-Err.ensures.reads clean c.requires.kept)

pub returns-in-Ok-clause-lost : goal.returns-in-Ok-clause-lost
returns-in-Ok-clause-lost g c =
    c.in-Ok.ensures.lost c.requires.kept ∙ sym (want_alone c.told_text.result c.told_text.ensures.refused)

pub returns-in-Ok-clause-reads : goal.returns-in-Ok-clause-reads
returns-in-Ok-clause-reads g c =
    reads_any g.S.Store c.args.archive.now c.state.new.self false (c.in-Ok.ensures.lost c.requires.kept)
    c.in-Ok.ensures.called c.in-Ok.ensures.open (λ clean. (c.in-Ok.ensures.reads clean c.requires.kept).stays)

pub returns-in-Err-clause-lost : goal.returns-in-Err-clause-lost
returns-in-Err-clause-lost g c = c.in-Err.ensures.lost c.requires.kept ∙ sym c.read_refusal.ensures.lost

pub returns-in-Err-clause-reads : goal.returns-in-Err-clause-reads
returns-in-Err-clause-reads g c =
    reads_any g.S.Store c.args.archive.now c.state.new.self (is_storage c.in-Err.kind)
    (c.in-Err.ensures.lost c.requires.kept) c.in-Err.ensures.called c.in-Err.ensures.open
    (λ clean. (c.in-Err.ensures.reads clean c.requires.kept).stays)
