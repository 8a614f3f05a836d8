use Rattle.std.proofs.Common.{◌≡◌, ◌∙◌, false, sym}
use Rattle.std.specs.Prelude.{string_bytes}
use Rattle.sqlite.specs.Held.{state}
use Rattle.archive_output.proofs.Asked.{unread_as}
use Rattle.archive_output.proofs.Calls.{no_failure, reads_any}
use Rattle.archive_output.proofs.Masked.{each_of_held, not_begun, part_of_held}
use Rattle.archive_output.proofs.Named.{not_blamed}
use Rattle.archive_output.proofs.Own.{never_unread}
use Rattle.archive_output.specs.Plain.{IsPlainPart, IsPlainWhole}
use Rattle.store.specs.Histories.{is_storage}
use Rattle.archive_output.proofs.plain_writing.write_named.Goals as goal
use Rattle.list_laws.proofs.Outcomes.{keeps}

pub returns-in-Ok-clause-written : goal.returns-in-Ok-clause-written
returns-in-Ok-clause-written g c =
    let before = g.W.Write.contents c.args.writer.now in
    let after = g.W.Write.contents c.write_state.new.writer in
    each_of_held (state g.S.Store c.args.archive.now.conn) (state g.S.Store c.state.new.self.conn) c.in-Ok.state
    (λ clean. c.in-Ok.ensures.reads clean c.requires.kept) c.write_state.result
    (λ left_out. IsPlainWhole before after (string_bytes left_out) c.args.society.now) c.write_state.ensures.written

pub returns-in-Ok-clause-begun : goal.returns-in-Ok-clause-begun
returns-in-Ok-clause-begun g c =
    let before = g.W.Write.contents c.args.writer.now in
    let after = g.W.Write.contents c.write_state.new.writer in
    part_of_held (state g.S.Store c.args.archive.now.conn) (state g.S.Store c.state.new.self.conn) c.in-Ok.state
    (λ clean. c.in-Ok.ensures.reads clean c.requires.kept) c.write_state.result
    (λ kind. IsPlainPart kind before after c.args.society.now) c.write_state.ensures.begun

pub returns-in-Err-clause-begun : goal.returns-in-Err-clause-begun
returns-in-Err-clause-begun g c =
    let old = state g.S.Store c.args.archive.now.conn in
    let new = state g.S.Store c.state.new.self.conn in
    not_begun old new c.read_refusal.result (g.W.Write.contents c.args.writer.now) _
    (unread_as (λ _ of found. found ≡ of) old new c.in-Err.kind c.read_refusal.result c.read_refusal.ensures.same
    (λ clean. c.in-Err.ensures.reads clean c.requires.kept))

pub returns-in-Ok-clause-unread : goal.returns-in-Ok-clause-unread
returns-in-Ok-clause-unread g c = never_unread c.write_state.result _ c.write_state.ensures.own

pub returns-in-Err-clause-unread : goal.returns-in-Err-clause-unread
returns-in-Err-clause-unread g c = λ _. keeps (g.W.Write.contents c.args.writer.now)

pub returns-in-Err-clause-writer : goal.returns-in-Err-clause-writer
returns-in-Err-clause-writer g c = not_blamed c.read_refusal.result _ c.read_refusal.ensures.stops

pub returns-in-Ok-clause-lost : goal.returns-in-Ok-clause-lost
returns-in-Ok-clause-lost g c =
    c.in-Ok.ensures.lost c.requires.kept ∙ sym (no_failure c.write_state.result c.write_state.ensures.own)

pub returns-in-Err-clause-lost : goal.returns-in-Err-clause-lost
returns-in-Err-clause-lost g c = c.in-Err.ensures.lost c.requires.kept ∙ sym c.read_refusal.ensures.lost

pub returns-in-Ok-clause-reads : goal.returns-in-Ok-clause-reads
returns-in-Ok-clause-reads g c =
    reads_any g.S.Store c.args.archive.now c.state.new.self false (c.in-Ok.ensures.lost c.requires.kept)
    c.in-Ok.ensures.called c.in-Ok.ensures.open (λ clean. (c.in-Ok.ensures.reads clean c.requires.kept).stays)

pub returns-in-Err-clause-reads : goal.returns-in-Err-clause-reads
returns-in-Err-clause-reads g c =
    reads_any g.S.Store c.args.archive.now c.state.new.self (is_storage c.in-Err.kind)
    (c.in-Err.ensures.lost c.requires.kept) c.in-Err.ensures.called c.in-Err.ensures.open
    (λ clean. (c.in-Err.ensures.reads clean c.requires.kept).stays)
