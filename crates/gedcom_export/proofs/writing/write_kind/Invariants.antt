use Rattle.std.proofs.Common.{drop}
use Rattle.std.specs.List.{flat_map}
use Rattle.gedcom_export.specs.Pieces.{text_at}
use Rattle.gedcom_export.proofs.Moving.{IsOnTheWay}
use Rattle.gedcom_export.proofs.writing.write_kind.Given as goal

abbrev pub invariant-records : goal.invariant-records
invariant-records g l = IsOnTheWay (g.W.Write.contents l.fn.writer) (g.W.Write.contents l.writer) l.fn.out l.out
    (flat_map (text_at l.state.records l.index) l.number-items)
    (flat_map (text_at l.state.records l.index) (drop l.number-index l.number-items))
