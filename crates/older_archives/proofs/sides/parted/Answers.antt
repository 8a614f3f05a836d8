use Rattle.std.proofs.Common.{arith, rules}
use Rattle.std.proofs.lemmas.Result.{err_from_is_err_and}
use Rattle.store_rows.specs.Sides.{side_lines_in}
use Rattle.store_rows.proofs.SidesRead.{weaker}
use Rattle.older_archives.specs.Reading.{WasNoSide, WereNoSides}
use Rattle.older_archives.proofs.Parted.{all_read, nothing_read, no_first, one_read}
use Rattle.older_archives.proofs.sides.parted.Goals as goal

pub sides-init : goal.sides-init
sides-init c = nothing_read (side_lines_in c.args.lines.now) _ (search rules)

pub returns-in_err-side-clause-refused : goal.returns-in_err-side-clause-refused
returns-in_err-side-clause-refused c =
    let p = err_from_is_err_and c.from_residual.result c.from_residual.ensures.1 in
    let first = c.split_at.result.0.now in
    let none_at_all : WasNoSide (side_lines_in first) → WereNoSides (side_lines_in c.args.lines.now) = λ none_first.
    c.sides.invariant.none (no_first c.sides.rest.now first c.first_side.result (omega arith)
    c.first_side.ensures.length c.split_at.ensures.front none_first) in
    rw (p.1, p.2) (weaker c.in_err-side.field-0.0 none_at_all c.in_err-side.ensures.refused)

pub sides-preserved : goal.sides-preserved
sides-preserved c =
    one_read (side_lines_in c.args.lines.now) c.sides.rest.now c.split_at.result.0.now c.split_at.result.1.now
    c.first_side.result c.sides.sides.items c.push.new.items.items c.in_ok-side.side (omega arith)
    c.first_side.ensures.length c.split_at.ensures.front c.split_at.ensures.back c.split_at.ensures.by_index.0
    c.in_ok-push.ensures c.in_ok-side.ensures.read c.sides.invariant

pub returns-clause-read : goal.returns-clause-read
returns-clause-read c = all_read (side_lines_in c.args.lines.now) c.sides.rest.now c.sides.sides.items
    c.sides-test.ensures c.sides.invariant
