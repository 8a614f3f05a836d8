use Rattle.std.specs.Prelude.{string_bytes}
use Rattle.sqlite.specs.Held.{state}
use Rattle.archive_output.proofs.Calls.{reads_any_then}
use Rattle.archive_output.proofs.Masked.{not_begun}
use Rattle.archive_output.proofs.Named.{each_of_named, not_blamed, part_of_named}
use Rattle.archive_output.specs.Plain.{IsPlainPart, IsPlainWhole}
use Rattle.archive_output.proofs.plain_writing.write_plain.Goals as goal
use Rattle.list_laws.proofs.Outcomes.{keeps}

pub returns-in-Ok-clause-written : goal.returns-in-Ok-clause-written
returns-in-Ok-clause-written g c =
    let before = g.W.Write.contents c.args.writer.now in
    let after = g.W.Write.contents c.write_named.new.writer in
    each_of_named c.write_named.result (state g.S.Store c.args.archive.now.conn)
    (state g.S.Store c.society_of.new.archive.conn) (state g.S.Store c.write_named.new.archive.conn)
    c.in-Ok.society c.as_str.result.now (λ left_out. IsPlainWhole before after (string_bytes left_out))
    c.as_str.ensures.same c.in-Ok.ensures.named c.write_named.ensures.written

pub returns-in-Ok-clause-begun : goal.returns-in-Ok-clause-begun
returns-in-Ok-clause-begun g c =
    let before = g.W.Write.contents c.args.writer.now in
    let after = g.W.Write.contents c.write_named.new.writer in
    part_of_named c.write_named.result (state g.S.Store c.args.archive.now.conn)
    (state g.S.Store c.society_of.new.archive.conn) (state g.S.Store c.write_named.new.archive.conn)
    c.in-Ok.society c.as_str.result.now (λ kind. IsPlainPart kind before after) c.as_str.ensures.same
    c.in-Ok.ensures.named c.write_named.ensures.begun

pub returns-in-Err-clause-begun : goal.returns-in-Err-clause-begun
returns-in-Err-clause-begun g c =
    not_begun (state g.S.Store c.args.archive.now.conn) (state g.S.Store c.society_of.new.archive.conn) c.in-Err.kind
    (g.W.Write.contents c.args.writer.now) _ c.in-Err.ensures.unnamed

pub returns-in-Err-clause-writer : goal.returns-in-Err-clause-writer
returns-in-Err-clause-writer g c = not_blamed c.in-Err.kind _ c.in-Err.ensures.stops

pub returns-in-Err-clause-unread : goal.returns-in-Err-clause-unread
returns-in-Err-clause-unread g c = λ _. keeps (g.W.Write.contents c.args.writer.now)

pub returns-in-Ok-clause-reads : goal.returns-in-Ok-clause-reads
returns-in-Ok-clause-reads g c =
    reads_any_then g.S.Store c.args.archive.now c.society_of.new.archive c.write_named.new.archive
    c.in-Ok.ensures.lost c.in-Ok.ensures.reads c.write_named.ensures.reads
