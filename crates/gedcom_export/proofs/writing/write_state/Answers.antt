use Rattle.std.proofs.Common.{inl, refl}
use Rattle.gedcom_tree.specs.Text.{text}
use Rattle.gedcom_export.specs.Forest.{exported}
use Rattle.gedcom_export.specs.Pieces.{whole_text}
use Rattle.gedcom_export.proofs.Households.{whole_same}
use Rattle.gedcom_export.proofs.Moving.{same_ends}
use Rattle.gedcom_export.proofs.writing.write_state.Goals as goal
use Rattle.devices.proofs.Begun.{begins_none}

pub returns-in-Ok-clause-written : goal.returns-in-Ok-clause-written
returns-in-Ok-clause-written g c =
    same_ends c.write_forest.result (g.W.Write.contents c.args.writer.now)
    (g.W.Write.contents c.write_forest.new.writer)
    (whole_text c.args.state.now.records c.in-Ok.index c.args.society.now)
    (text (exported c.args.state.now.records c.args.society.now))
    (whole_same c.args.state.now.records c.in-Ok.index c.in-Ok.ensures.shows c.args.society.now)
    c.write_forest.ensures.written

pub returns-in-Err-clause-written : goal.returns-in-Err-clause-written
returns-in-Err-clause-written g c = record {
  reason = inl refl;
  written = begins_none (g.W.Write.contents c.args.writer.now)
      (text (exported c.args.state.now.records c.args.society.now));
}
