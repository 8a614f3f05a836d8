use Rattle.std.proofs.Common.{List, rules, subst, sym, ◌∙◌}
use Rattle.std.specs.Io.KnownBytes.{Keeps}
use Rattle.sqlite.specs.Held.{state}
use Rattle.histories.specs.History.{history}
use Rattle.past_values.specs.declared.reading.PastValue.{PastValue}
use Rattle.archive_output.proofs.Calls.{reads_any, reads_then}
use Rattle.archive_tables.specs.Ends.{EndsWriting, OnRead}
use Rattle.archive_tables.proofs.Recalled.{none_recalled, some_recalled}
use Rattle.archive_tables.proofs.remembering.write_history.Goals as goal

pub returns-in-Err-clause-ended : goal.returns-in-Err-clause-ended
returns-in-Err-clause-ended g c =
    let kept : Keeps (g.W.Write.contents c.args.writer.now) (g.W.Write.contents c.args.writer.now) = search rules in
    none_recalled c.args.number _ _ (state g.S.Store c.args.archive.now.conn)
    (state g.S.Store c.recall.new.self.conn) c.in-Err.kind c.unrecalled.result
    (λ clean. c.in-Err.ensures.recalls clean c.requires.kept) c.unrecalled.ensures.same kept

pub returns-in-Err-clause-lost : goal.returns-in-Err-clause-lost
returns-in-Err-clause-lost g c = c.in-Err.ensures.lost c.requires.kept ∙ sym c.unrecalled.ensures.lost

pub returns-in-Err-clause-reads : goal.returns-in-Err-clause-reads
returns-in-Err-clause-reads g c =
    let did = c.in-Err.ensures in
    (reads_any g.S.Store c.args.archive.now c.recall.new.self _ (did.lost c.requires.kept) did.called did.open
    (λ clean. (did.recalls clean c.requires.kept).stays)).reads

pub returns-in-Ok-clause-ended : goal.returns-in-Ok-clause-ended
returns-in-Ok-clause-ended g c =
    let mid = state g.S.Store c.recall.new.self.conn in
    let new = state g.S.Store c.write_values.new.archive.conn in
    let ended = subst (λ (vs : List PastValue). OnRead mid new (λ k. EndsWriting c.write_values.result
    (g.W.Write.contents c.args.writer.now) (g.W.Write.contents c.write_values.new.writer)
    (history c.in-Ok.found.answers k.records c.args.number vs))) c.deref.ensures.value c.write_values.ensures.ended in
    some_recalled c.args.number (g.W.Write.contents c.args.writer.now)
    (g.W.Write.contents c.write_values.new.writer) (state g.S.Store c.args.archive.now.conn) mid new c.in-Ok.found
    c.write_values.result (λ clean. c.in-Ok.ensures.recalls clean c.requires.kept) ended

pub returns-in-Ok-clause-reads : goal.returns-in-Ok-clause-reads
returns-in-Ok-clause-reads g c =
    let did = c.in-Ok.ensures in
    reads_then g.S.Store c.args.archive.now c.recall.new.self c.write_values.new.archive (did.lost c.requires.kept)
    (reads_any g.S.Store c.args.archive.now c.recall.new.self _ (did.lost c.requires.kept) did.called did.open
    (λ clean. (did.recalls clean c.requires.kept).stays)).reads c.write_values.ensures.reads
