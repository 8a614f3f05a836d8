use Rattle.std.proofs.Common.{◌≡◌, Err, rules}
use Rattle.gedcom_export.specs.Pieces.{whole_text}
use Rattle.gedcom_export.proofs.Moving.{begun_of, ends_of}
use Rattle.gedcom_export.proofs.writing.write_forest.Goals as goal

pub returns-clause-written : goal.returns-clause-written
returns-clause-written g c = ends_of c.hand_over.result (g.W.Write.contents c.args.writer.now)
    (g.W.Write.contents c.write_parts.new.writer) (g.W.Write.contents c.hand_over.new.writer)
    c.new-out.result c.write_parts.new.out c.hand_over.new.out
    (whole_text c.args.state.now.records c.args.index.now c.args.society.now)
    c.new-out.ensures.written c.new-out.ensures.text c.in_ok-write_parts.ensures.written
    c.hand_over.ensures.moved c.hand_over.ensures.short c.hand_over.ensures.all

pub returns-in_err-write_parts-clause-written : goal.returns-in_err-write_parts-clause-written
returns-in_err-write_parts-clause-written g c =
    let same : c.from_residual.result ≡ Err c.in_err-write_parts.field-0.0 = search rules in
    rw same (begun_of (g.W.Write.contents c.args.writer.now) (g.W.Write.contents c.write_parts.new.writer)
    c.new-out.result
    (whole_text c.args.state.now.records c.args.index.now c.args.society.now) _
    c.new-out.ensures.written c.new-out.ensures.text c.in_err-write_parts.ensures.written)
