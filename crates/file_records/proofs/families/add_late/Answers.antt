use Rattle.std.proofs.Common.{drop, ◌+◌}
use Rattle.file_records.specs.Carried.{line_kept}
use Rattle.file_records.proofs.Loops.{few_front, front_at, late_end, late_step, side_at}
use Rattle.file_records.proofs.families.add_late.Goals as goal
use Rattle.list_laws.proofs.Lists.{none_left}

pub add_if_late-requires : goal.add_if_late-requires
add_if_late-requires c =
    let ss = c.args.sides.now in
    let i = c.loop-side.side-index in
    (few_front (side_at ss i) (drop (i + 1) ss) (drop i ss) (front_at ss i c.loop-side-test.true)
    c.loop-side.invariant.few).0

pub loop-side-preserved : goal.loop-side-preserved
loop-side-preserved c =
    let ss = c.args.sides.now in
    let i = c.loop-side.side-index in
    let front = front_at ss i c.loop-side-test.true in
    record {
      few = (few_front (side_at ss i) (drop (i + 1) ss) (drop i ss) front c.loop-side.invariant.few).1;
      children = late_step c.args.roots.now (line_kept c.args.lines.now) (side_at ss i) (drop (i + 1) ss) (drop i ss)
          c.loop-side.children.items c.add_if_late.new.children.items _ front c.in_ok-add_if_late.ensures
          c.loop-side.invariant.children;
    }

pub returns : goal.returns
returns c = late_end c.args.roots.now (line_kept c.args.lines.now) (drop c.loop-side.side-index c.args.sides.now)
    c.loop-side.children.items _ (none_left c.args.sides.now c.loop-side.side-index c.loop-side-test.false)
    c.loop-side.invariant.children
