use Rattle.std.proofs.Common.{sym, subst, ◌∙◌}
use Rattle.gedcom_line.specs.Line.{IsPiece}
use Rattle.file_faults.proofs.Spreading.{spread_piece}
use Rattle.file_faults.proofs.reading.Course.take.Goals as goal

pub read-requires-clause-piece : goal.read-requires-clause-piece
read-requires-clause-piece c =
    subst IsPiece (sym (c.as_bytes.ensures.value ∙ c.in_ok-text.ensures))
    (spread_piece c.args.piece.now c.requires.piece)
