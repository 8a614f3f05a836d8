use Rattle.std.proofs.Common.{◌≡◌, ℕ, List, Option, Err, IfSome, decimal, option_copied, option_map, rules, subst, sym}
use Rattle.stored_lines.specs.Line.{Label}
use Rattle.record_text.specs.Text.{IsTag, IsText}
use Rattle.packed_rows.specs.Packed.{IsU32, on_one_line}
use Rattle.packed_rows.specs.Pieces.{HasPieces}
use Rattle.packed_rows.proofs.Found.{fails_more}
use Rattle.packed_rows.proofs.reading.line_of_pieces.Goals as goal

pub returns-in_err-depth-clause-err : goal.returns-in_err-depth-clause-err
returns-in_err-depth-clause-err c =
    let same : c.from_residual.result ≡ Err c.in_err-depth.field-0.0 = search rules in
    rw same (fails_more ((n : ℕ) × (c.args.depth.now ≡ decimal n) × IsU32 n)
    ((l : ℕ × Label) × HasPieces c.args.depth.now c.args.tag.now (option_copied c.args.number)
    (option_copied c.args.words) l)
    (λ x. (x.0.0, x.1.depth, x.1.typed.0)) c.in_err-depth.field-0.0 c.in_err-depth.ensures.err)

pub returns-in_err-target-clause-err : goal.returns-in_err-target-clause-err
returns-in_err-target-clause-err c =
    let same : c.from_residual-in_err-target.result ≡ Err c.in_err-target.field-0.0 = search rules in
    rw same (fails_more ((n : Option ℕ) × (option_copied c.args.number ≡ option_map decimal n) × IfSome n IsU32)
    ((l : ℕ × Label) × HasPieces c.args.depth.now c.args.tag.now (option_copied c.args.number)
    (option_copied c.args.words) l)
    (λ x. (x.0.1.target, x.1.number, x.1.typed.3)) c.in_err-target.field-0.0 c.in_err-target.ensures.err)

pub returns-in_err-tag-clause-err : goal.returns-in_err-tag-clause-err
returns-in_err-tag-clause-err c =
    let same : c.from_residual-in_err-tag.result ≡ Err c.in_err-tag.field-0.0 = search rules in
    rw same (fails_more (IsTag c.args.tag.now)
    ((l : ℕ × Label) × HasPieces c.args.depth.now c.args.tag.now (option_copied c.args.number)
    (option_copied c.args.words) l)
    (λ x. subst IsTag (sym x.1.tag) x.1.typed.1) c.in_err-tag.field-0.0 c.in_err-tag.ensures.err)

pub returns-in_err-text-clause-err : goal.returns-in_err-text-clause-err
returns-in_err-text-clause-err c =
    let same : c.from_residual-in_err-text.result ≡ Err c.in_err-text.field-0.0 = search rules in
    rw same (fails_more ((t : Option (List ℕ)) × (option_copied c.args.words ≡ option_map on_one_line t)
    × IfSome t IsText)
    ((l : ℕ × Label) × HasPieces c.args.depth.now c.args.tag.now (option_copied c.args.number)
    (option_copied c.args.words) l)
    (λ x. (x.0.1.text, x.1.words, x.1.typed.2)) c.in_err-text.field-0.0 c.in_err-text.ensures.err)
