use Rattle.std.proofs.Common.{◌∙◌, ap}
use Rattle.sqlite.specs.Held.{state}
use Rattle.gedcom_export.specs.Ends.{IsWhole}
use Rattle.store.specs.Histories.{is_storage}
use Rattle.archive_output.specs.Exporting.{IsPart, export_text}
use Rattle.archive_output.proofs.Calls.{reads_then}
use Rattle.archive_output.proofs.Exported.{nothing_written}
use Rattle.archive_output.proofs.Named.{not_blamed, part_of_named, whole_of_named}
use Rattle.archive_output.proofs.exporting.write_archive.Goals as goal

pub returns-in-Ok-clause-written : goal.returns-in-Ok-clause-written
returns-in-Ok-clause-written g c =
    let before = g.W.Write.contents c.args.output.now in
    let after = g.W.Write.contents c.write_named.new.output in
    whole_of_named c.write_named.result (state g.S.Store c.args.archive.now.conn)
    (state g.S.Store c.society_of.new.archive.conn) (state g.S.Store c.write_named.new.archive.conn)
    c.in-Ok.society c.as_str.result.now (λ society of. IsWhole before after (export_text society of))
    c.as_str.ensures.same c.in-Ok.ensures.named c.write_named.ensures.written

pub returns-in-Ok-clause-begun : goal.returns-in-Ok-clause-begun
returns-in-Ok-clause-begun g c =
    let before = g.W.Write.contents c.args.output.now in
    let after = g.W.Write.contents c.write_named.new.output in
    part_of_named c.write_named.result (state g.S.Store c.args.archive.now.conn)
    (state g.S.Store c.society_of.new.archive.conn) (state g.S.Store c.write_named.new.archive.conn)
    c.in-Ok.society c.as_str.result.now (λ kind society of. IsPart kind before after (export_text society of))
    c.as_str.ensures.same c.in-Ok.ensures.named c.write_named.ensures.begun

pub returns-in-Err-clause-begun : goal.returns-in-Err-clause-begun
returns-in-Err-clause-begun g c =
    nothing_written (state g.S.Store c.args.archive.now.conn) (state g.S.Store c.society_of.new.archive.conn)
    c.in-Err.kind (g.W.Write.contents c.args.output.now) c.in-Err.ensures.unnamed

pub returns-in-Err-clause-writer : goal.returns-in-Err-clause-writer
returns-in-Err-clause-writer g c = not_blamed c.in-Err.kind _ c.in-Err.ensures.stops

pub returns-in-Err-clause-told : goal.returns-in-Err-clause-told
returns-in-Err-clause-told g c is = c.in-Err.ensures.lost ∙ ap is_storage is

pub returns-in-Ok-clause-reads : goal.returns-in-Ok-clause-reads
returns-in-Ok-clause-reads g c =
    reads_then g.S.Store c.args.archive.now c.society_of.new.archive c.write_named.new.archive c.in-Ok.ensures.lost
    c.in-Ok.ensures.reads.reads c.write_named.ensures.reads

pub returns-in-Err-clause-reads : goal.returns-in-Err-clause-reads
returns-in-Err-clause-reads g c = c.in-Err.ensures.reads.reads
