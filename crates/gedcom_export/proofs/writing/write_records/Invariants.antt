use Rattle.std.proofs.Common.{drop}
use Rattle.gedcom_export.specs.Pieces.{kinds_text, ranks}
use Rattle.gedcom_export.proofs.Moving.{IsOnTheWay}
use Rattle.gedcom_export.proofs.writing.write_records.Given as goal

abbrev pub invariant-ranks : goal.invariant-ranks
invariant-ranks g l = IsOnTheWay (g.W.Write.contents l.fn.writer) (g.W.Write.contents l.writer) l.fn.out l.out
    (kinds_text l.state.records l.index ranks) (kinds_text l.state.records l.index (drop l.rank-index ranks))
