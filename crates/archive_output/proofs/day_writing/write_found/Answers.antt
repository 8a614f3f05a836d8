use Rattle.std.proofs.Common.{◌∙◌, string_bytes, sym, w32}
use Rattle.std.proofs.lemmas.Int.{to_z-of_z}
use Rattle.std.specs.Prelude.{IfErr, OnOk}
use Rattle.sqlite.specs.Held.{state}
use Rattle.archive_output.proofs.Calls.{written_or_want}
use Rattle.archive_output.proofs.Named.{not_blamed}
use Rattle.archive_output.specs.Reading.{OnOpen}
use Rattle.archive_output.specs.Ends.{AreCut, AreWritten}
use Rattle.archive_output.proofs.Finds.{all_written, in_days, none_written, part_written}
use Rattle.archive_output.proofs.day_writing.write_found.Goals as goal
use Rattle.list_laws.proofs.Outcomes.{keeps}

pub returns-in-Ok-clause-written : goal.returns-in-Ok-clause-written
returns-in-Ok-clause-written g c =
    let old = state g.S.Store c.args.archive.now.conn in
    let new = state g.S.Store c.text_of.new.archive.conn in
    let before = g.W.Write.contents c.args.writer.now in
    let after = g.W.Write.contents c.write_text.new.writer in
    in_days
    (λ f l. OnOk c.write_text.result (OnOpen old new (λ _ of. AreWritten c.args.words f l before after of)))
    _ c.args.first _ c.args.last (to_z-of_z w32 c.args.first c.ranges.first)
    (to_z-of_z w32 c.args.last c.ranges.last)
    (all_written old new c.args.words _ _ before after (string_bytes c.in-Ok.text) c.as_str.result.now
    c.as_str.ensures.value c.in-Ok.ensures.found c.write_text.result c.write_text.ensures.written)

pub returns-in-Ok-clause-cut : goal.returns-in-Ok-clause-cut
returns-in-Ok-clause-cut g c =
    let old = state g.S.Store c.args.archive.now.conn in
    let new = state g.S.Store c.text_of.new.archive.conn in
    let before = g.W.Write.contents c.args.writer.now in
    let after = g.W.Write.contents c.write_text.new.writer in
    in_days
    (λ f l. IfErr c.write_text.result
    (λ kind. OnOpen old new (λ _ of. AreCut kind c.args.words f l before after of)))
    _ c.args.first _ c.args.last (to_z-of_z w32 c.args.first c.ranges.first)
    (to_z-of_z w32 c.args.last c.ranges.last)
    (part_written old new c.args.words _ _ before after (string_bytes c.in-Ok.text) c.as_str.result.now
    c.as_str.ensures.value c.in-Ok.ensures.found c.write_text.result c.write_text.ensures.begun
    c.write_text.ensures.why)

pub returns-in-Err-clause-cut : goal.returns-in-Err-clause-cut
returns-in-Err-clause-cut g c =
    none_written (state g.S.Store c.args.archive.now.conn) (state g.S.Store c.text_of.new.archive.conn) c.in-Err.kind
    c.args.words c.args.first c.args.last (g.W.Write.contents c.args.writer.now) c.in-Err.ensures.unfound

pub returns-in-Err-clause-writer : goal.returns-in-Err-clause-writer
returns-in-Err-clause-writer g c = not_blamed c.in-Err.kind _ c.in-Err.ensures.stops

pub returns-in-Err-clause-unread : goal.returns-in-Err-clause-unread
returns-in-Err-clause-unread g c = λ _. keeps (g.W.Write.contents c.args.writer.now)

pub returns-in-Ok-clause-lost : goal.returns-in-Ok-clause-lost
returns-in-Ok-clause-lost g c =
    c.in-Ok.ensures.lost ∙ sym (written_or_want c.write_text.result c.write_text.ensures.why)
