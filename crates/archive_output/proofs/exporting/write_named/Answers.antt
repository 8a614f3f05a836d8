use Rattle.std.proofs.Common.{◌≡◌, ◌∙◌, ap, false, sym}
use Rattle.sqlite.specs.Held.{state}
use Rattle.gedcom_export.specs.Ends.{IsWhole}
use Rattle.store.specs.Histories.{is_storage}
use Rattle.archive_output.specs.Exporting.{IsPart, export_text}
use Rattle.archive_output.proofs.Asked.{unread_as}
use Rattle.archive_output.proofs.Calls.{reads_any, reads_then}
use Rattle.archive_output.proofs.Exported.{never_lost, nothing_of, part_by_looks, whole_by_looks}
use Rattle.archive_output.proofs.Masked.{all_of_held, part_of_held}
use Rattle.archive_output.proofs.Named.{not_blamed}
use Rattle.archive_output.proofs.exporting.write_named.Goals as goal

pub returns-in-Ok-clause-written : goal.returns-in-Ok-clause-written
returns-in-Ok-clause-written g c =
    let before = g.W.Write.contents c.args.output.now in
    let after = g.W.Write.contents c.write_state.new.output in
    all_of_held (state g.S.Store c.args.archive.now.conn) (state g.S.Store c.state.new.self.conn) c.in-Ok.state
    (λ clean. c.in-Ok.ensures.reads clean c.requires.kept) c.write_state.result
    (λ of. IsWhole before after (export_text c.args.society.now of)) c.write_state.ensures.written

pub returns-in-Ok-clause-begun : goal.returns-in-Ok-clause-begun
returns-in-Ok-clause-begun g c =
    let before = g.W.Write.contents c.args.output.now in
    let after = g.W.Write.contents c.write_state.new.output in
    part_of_held (state g.S.Store c.args.archive.now.conn) (state g.S.Store c.state.new.self.conn) c.in-Ok.state
    (λ clean. c.in-Ok.ensures.reads clean c.requires.kept) c.write_state.result
    (λ kind of. IsPart kind before after (export_text c.args.society.now of)) c.write_state.ensures.begun

pub returns-in-Err-clause-begun : goal.returns-in-Err-clause-begun
returns-in-Err-clause-begun g c =
    let old = state g.S.Store c.args.archive.now.conn in
    let new = state g.S.Store c.state.new.self.conn in
    nothing_of old new c.read_refusal.result (g.W.Write.contents c.args.output.now) (export_text c.args.society.now)
    (unread_as (λ _ of found. found ≡ of) old new c.in-Err.kind c.read_refusal.result c.read_refusal.ensures.same
    (λ clean. c.in-Err.ensures.reads clean c.requires.kept))

pub returns-in-Err-clause-writer : goal.returns-in-Err-clause-writer
returns-in-Err-clause-writer g c = not_blamed c.read_refusal.result _ c.read_refusal.ensures.stops

pub returns-in-Ok-clause-told : goal.returns-in-Ok-clause-told
returns-in-Ok-clause-told g c = never_lost c.write_state.result _ c.write_state.ensures.own

pub returns-in-Err-clause-told : goal.returns-in-Err-clause-told
returns-in-Err-clause-told g c is =
    c.in-Err.ensures.lost c.requires.kept ∙ sym c.read_refusal.ensures.lost ∙ ap is_storage is

pub returns-in-Ok-clause-reads : goal.returns-in-Ok-clause-reads
returns-in-Ok-clause-reads g c =
    (reads_any g.S.Store c.args.archive.now c.state.new.self false (c.in-Ok.ensures.lost c.requires.kept)
    c.in-Ok.ensures.called c.in-Ok.ensures.open (λ clean. (c.in-Ok.ensures.reads clean c.requires.kept).stays)).reads

pub returns-in-Err-clause-reads : goal.returns-in-Err-clause-reads
returns-in-Err-clause-reads g c =
    (reads_any g.S.Store c.args.archive.now c.state.new.self (is_storage c.in-Err.kind)
    (c.in-Err.ensures.lost c.requires.kept) c.in-Err.ensures.called c.in-Err.ensures.open
    (λ clean. (c.in-Err.ensures.reads clean c.requires.kept).stays)).reads

-- ---- the tables cannot be read whole, so that they are no archive's
pub returns-in-Err-BadStored-clause-written : goal.returns-in-Err-BadStored-clause-written
returns-in-Err-BadStored-clause-written g c =
    let before = g.W.Write.contents c.args.output.now in
    let after = g.W.Write.contents c.write_by_looks.new.output in
    whole_by_looks (λ _ of found. found ≡ of) (state g.S.Store c.args.archive.now.conn)
    (state g.S.Store c.state.new.self.conn) (state g.S.Store c.write_by_looks.new.archive.conn)
    c.in-Err-BadStored.field-0 c.in-Err-BadStored.field-0-is
    (λ clean. c.in-Err-BadStored.ensures.reads clean c.requires.kept) c.write_by_looks.result
    (λ _ of. IsWhole before after (export_text c.args.society.now of))
    (λ _ of. IsWhole before after (export_text c.args.society.now of)) c.write_by_looks.ensures.written

pub returns-in-Err-BadStored-clause-begun : goal.returns-in-Err-BadStored-clause-begun
returns-in-Err-BadStored-clause-begun g c =
    let before = g.W.Write.contents c.args.output.now in
    let after = g.W.Write.contents c.write_by_looks.new.output in
    part_by_looks (λ _ of found. found ≡ of) (state g.S.Store c.args.archive.now.conn)
    (state g.S.Store c.state.new.self.conn) (state g.S.Store c.write_by_looks.new.archive.conn)
    c.in-Err-BadStored.field-0 c.in-Err-BadStored.field-0-is
    (λ clean. c.in-Err-BadStored.ensures.reads clean c.requires.kept) c.write_by_looks.result
    (λ kind _ of. IsPart kind before after (export_text c.args.society.now of))
    (λ kind _ of. IsPart kind before after (export_text c.args.society.now of)) c.write_by_looks.ensures.begun

pub returns-in-Err-BadStored-clause-reads : goal.returns-in-Err-BadStored-clause-reads
returns-in-Err-BadStored-clause-reads g c =
    let kind = c.in-Err-BadStored.field-0 in
    let lost = c.in-Err-BadStored.ensures.lost c.requires.kept in
    reads_then g.S.Store c.args.archive.now c.state.new.self c.write_by_looks.new.archive
    (lost ∙ ap is_storage c.in-Err-BadStored.field-0-is)
    (reads_any g.S.Store c.args.archive.now c.state.new.self (is_storage kind) lost
    c.in-Err-BadStored.ensures.called c.in-Err-BadStored.ensures.open
    (λ clean. (c.in-Err-BadStored.ensures.reads clean c.requires.kept).stays)).reads c.write_by_looks.ensures.reads
