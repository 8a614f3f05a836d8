use Rattle.std.proofs.Common.{ℕ, inr, option_copied, refl}
use Rattle.stored_lines.specs.Line.{Label}
use Rattle.packed_rows.specs.Packed.{FailsUnless}
use Rattle.packed_rows.specs.Pieces.{HasPieces, IsLineOf}
use Rattle.packed_rows.proofs.Found.{err_more, fails_more}
use Rattle.packed_rows.proofs.Lines.{no_line, pieces_found}
use Rattle.packed_rows.proofs.reading.line_of.Goals as goal

pub returns-in_default-clause-err : goal.returns-in_default-clause-err
returns-in_default-clause-err c = inr (refl, no_line c.args.text.now c.in_default.ensures)

pub returns-clause-err : goal.returns-clause-err
returns-clause-err c =
    let pieces = (l : ℕ × Label) × HasPieces c.in-Some.depth.now c.parted-2.result.0.now
    (option_copied c.parted-2.result.1) (option_copied c.parted.result.1) l in
    let line = (l : ℕ × Label) × IsLineOf c.args.text.now l in
    err_more (FailsUnless pieces) (FailsUnless line)
    (fails_more pieces line (λ x. (
      x.0,
      pieces_found c.args.text.now c.in-Some.depth.now c.in-Some.rest.now
          c.parted.result.0.now c.parted-2.result.0.now (option_copied c.parted-2.result.1)
          (option_copied c.parted.result.1) c.in-Some.ensures.0 c.in-Some.ensures.1 c.parted.ensures.whole
          c.parted.ensures.front c.parted-2.ensures.whole
          c.parted-2.ensures.front x.0 x.1,
    )))
    c.line_of_pieces.result c.line_of_pieces.ensures.err
