use Rattle.std.proofs.Common.{drop, ◌+◌, arith}
use Rattle.file_records.specs.Carried.{line_among, line_kept}
use Rattle.file_records.proofs.Loops.{front_at, line_end, line_step, side_at}
use Rattle.file_records.proofs.kept.lines_by_person.Goals as goal
use Rattle.list_laws.proofs.Lists.{none_left}

pub loop-side-preserved : goal.loop-side-preserved
loop-side-preserved c =
    let ss = c.args.sides.now in
    let i = c.loop-side.side-index in
    line_step (side_at ss i) (drop (i + 1) ss) (drop i ss) (line_kept c.loop-side.lines)
    (line_kept c.keep.new.lines) (line_among ss) (front_at ss i c.loop-side-test.true) c.in_ok-keep.ensures
    c.loop-side.invariant

pub returns : goal.returns
returns c = λ n. line_end (line_kept c.loop-side.lines n) n (drop c.loop-side.side-index c.args.sides.now)
    (line_among c.args.sides.now n) (none_left c.args.sides.now c.loop-side.side-index (omega arith))
    (c.loop-side.invariant n)
