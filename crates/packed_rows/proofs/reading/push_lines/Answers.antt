use Rattle.std.proofs.Common.{◌≡◌, ◌<◌, ℕ, Err, arith, ap, inr, length, refl, rules}
use Rattle.std.proofs.lemmas.Grind.{common_steps}
use Rattle.stored_lines.specs.Line.{Label}
use Rattle.packed_rows.specs.Packed.{StoredLines, HaveText}
use Rattle.packed_rows.specs.Pieces.{IsLineOf}
use Rattle.packed_rows.proofs.Found.{fails_more, one_behind}
use Rattle.packed_rows.proofs.Lines.{lines_left, none_left}
use Rattle.packed_rows.proofs.reading.push_lines.Goals as goal

pub returns-in_err-line_of-clause-err : goal.returns-in_err-line_of-clause-err
returns-in_err-line_of-clause-err c =
    let same : c.from_residual.result ≡ Err c.in_err-line_of.field-0.0 = search rules in
    rw same (fails_more ((l : ℕ × Label) × IsLineOf c.in-Some.line.now l)
    ((more : StoredLines) × HaveText c.args.text.now more)
    (λ x. let left = c.lines.invariant.honest x in
    (lines_left c.lines.rest.now c.in-Some.line.now c.in-Some.after.now c.in-Some.ensures.0 c.in-Some.ensures.1
    left.0 left.1).0)
    c.in_err-line_of.field-0.0 c.in_err-line_of.ensures.err)

pub lines-preserved : goal.lines-preserved
lines-preserved c = record {
  utf8 = search rules;
  behind = one_behind c.args.lines.now.items c.lines.lines.items c.push.new.lines.items c.args.text.now c.lines.rest.now
      c.in-Some.line.now c.in-Some.after.now c.in_ok-line_of.field-0 c.lines.invariant.behind c.in-Some.ensures.0
      c.in_ok-line_of.ensures.ok c.in_ok-push.ensures;
  honest = λ x. let left = c.lines.invariant.honest x in
      (lines_left c.lines.rest.now c.in-Some.line.now c.in-Some.after.now c.in-Some.ensures.0 c.in-Some.ensures.1
      left.0 left.1).1;
}

pub returns-else-is_empty-clause-err : goal.returns-else-is_empty-clause-err
returns-else-is_empty-clause-err c =
    let some : 0 < length c.lines.rest.now = grind (arith, common_steps) in
    inr (
      refl,
      λ x. let left = c.lines.invariant.honest x in
          let none : length c.lines.rest.now ≡ 0
          = ap length (none_left c.lines.rest.now c.in_default.ensures left.0 left.1) in
          omega (arith, some, none),
    )
