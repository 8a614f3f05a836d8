use Rattle.std.proofs.Common.{arith}
use Rattle.std.proofs.lemmas.Result.{err_from_is_err_and}
use Rattle.store_rows.specs.Sides.{side_lines_in, NoSide, NoSides}
use Rattle.store_rows.proofs.SidesRead.{no_first, no_others, one_more_side, weaker}
use Rattle.store_rows.proofs.sides.sides_of.Goals as goal

pub returns-in_err-side-clause-refused : goal.returns-in_err-side-clause-refused
returns-in_err-side-clause-refused c =
    let p = err_from_is_err_and c.from_residual.result c.from_residual.ensures.1 in
    let first = c.split_at.result.0.now in
    let none_at_all : NoSide (side_lines_in first) → NoSides (side_lines_in c.args.lines.now) = λ none_first.
    c.sides.invariant.none_else (no_first c.sides.rest.now first c.first_side.result (omega arith)
    c.first_side.ensures.length c.split_at.ensures.front none_first) in
    rw (p.1, p.2) (weaker c.in_err-side.field-0.0 none_at_all c.in_err-side.ensures.refused)

pub sides-preserved : goal.sides-preserved
sides-preserved c =
    let rest = c.sides.rest.now in
    let others = c.split_at.result.1.now in
    record {
      so_far = one_more_side c.sides.sides.items c.push_side.new.sides.items c.in_ok-side.side rest
          c.split_at.result.0.now others (side_lines_in c.args.lines.now)
          c.in_ok-push_side.ensures c.split_at.ensures.by_index.0 c.in_ok-side.ensures.read c.sides.invariant.so_far;
      none_else = λ none_after. c.sides.invariant.none_else
          (no_others rest others c.first_side.result (omega arith) c.first_side.ensures.length
          c.split_at.ensures.back none_after);
    }
