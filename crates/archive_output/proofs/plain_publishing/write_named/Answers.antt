use Rattle.std.proofs.Common.{◌∙◌, sym, w32}
use Rattle.std.proofs.lemmas.Int.{to_z-of_z}
use Rattle.std.specs.Prelude.{string_bytes}
use Rattle.sqlite.specs.Held.{state}
use Rattle.archive_output.proofs.Calls.{no_failure}
use Rattle.archive_output.proofs.Named.{not_blamed}
use Rattle.archive_output.specs.Plain.{IsPlainCut, IsPlainWhole}
use Rattle.archive_output.specs.Writing.{IsNotBegun}
use Rattle.archive_output.proofs.Own.{never_unread}
use Rattle.archive_output.proofs.Sound.{day_sound, each_of_sound}
use Rattle.archive_output.proofs.Masked.{each_of_shown, none_of_shown, not_begun, of_day}
use Rattle.archive_output.proofs.plain_publishing.write_named.Goals as goal
use Rattle.list_laws.proofs.Outcomes.{keeps}

pub returns-in-Ok-clause-written : goal.returns-in-Ok-clause-written
returns-in-Ok-clause-written g c =
    let old = state g.S.Store c.args.archive.now.conn in
    let new = state g.S.Store c.shown_of.new.archive.conn in
    let before = g.W.Write.contents c.args.writer.now in
    let after = g.W.Write.contents c.write_shown.new.writer in
    each_of_shown old new c.args.today c.in-Ok.shown
    (of_day old new _ c.args.today c.in-Ok.shown (to_z-of_z w32 c.args.today c.ranges.today) c.in-Ok.ensures.shown)
    c.write_shown.result
    (λ left_out. IsPlainWhole before after (string_bytes left_out) c.args.society.now)
    (λ _. c.write_shown.ensures.written)

pub returns-in-Ok-clause-begun : goal.returns-in-Ok-clause-begun
returns-in-Ok-clause-begun g c =
    let old = state g.S.Store c.args.archive.now.conn in
    let new = state g.S.Store c.shown_of.new.archive.conn in
    let before = g.W.Write.contents c.args.writer.now in
    let after = g.W.Write.contents c.write_shown.new.writer in
    none_of_shown old new c.args.today c.in-Ok.shown
    (of_day old new _ c.args.today c.in-Ok.shown (to_z-of_z w32 c.args.today c.ranges.today) c.in-Ok.ensures.shown)
    c.write_shown.result (λ kind. IsNotBegun kind before after)
    (λ kind. IsPlainCut kind before after c.args.society.now) (λ _. c.write_shown.ensures.begun)

pub returns-in-Err-clause-begun : goal.returns-in-Err-clause-begun
returns-in-Err-clause-begun g c =
    not_begun (state g.S.Store c.args.archive.now.conn) (state g.S.Store c.shown_of.new.archive.conn) c.in-Err.kind
    (g.W.Write.contents c.args.writer.now) _ c.in-Err.ensures.unshown

pub returns-in-Err-clause-writer : goal.returns-in-Err-clause-writer
returns-in-Err-clause-writer g c = not_blamed c.in-Err.kind _ c.in-Err.ensures.stops

pub returns-in-Err-clause-unread : goal.returns-in-Err-clause-unread
returns-in-Err-clause-unread g c = λ _. keeps (g.W.Write.contents c.args.writer.now)

pub returns-in-Ok-clause-sound : goal.returns-in-Ok-clause-sound
returns-in-Ok-clause-sound g c =
    let old = state g.S.Store c.args.archive.now.conn in
    let new = state g.S.Store c.shown_of.new.archive.conn in
    let before = g.W.Write.contents c.args.writer.now in
    let after = g.W.Write.contents c.write_shown.new.writer in
    each_of_sound old new c.args.today c.in-Ok.shown
    (day_sound old new _ c.args.today c.in-Ok.shown (to_z-of_z w32 c.args.today c.ranges.today) c.in-Ok.ensures.sound)
    c.write_shown.result
    (λ left_out. IsPlainWhole before after (string_bytes left_out) c.args.society.now)
    (λ _. c.write_shown.ensures.written)

pub returns-in-Ok-clause-unread : goal.returns-in-Ok-clause-unread
returns-in-Ok-clause-unread g c = never_unread c.write_shown.result _ c.write_shown.ensures.own

pub returns-in-Ok-clause-lost : goal.returns-in-Ok-clause-lost
returns-in-Ok-clause-lost g c =
    c.in-Ok.ensures.lost ∙ sym (no_failure c.write_shown.result c.write_shown.ensures.own)
