use Rattle.std.proofs.Common.{◌+◌, drop, refl, arith}
use Rattle.import_definitions.specs.Nodes.{tree_of, trees_of}
use Rattle.file_records.specs.SideViews.{member_in, taken_at}
use Rattle.file_records.proofs.Fronts.{front_of}
use Rattle.file_records.proofs.Taking.{said_step, sides_step}
use Rattle.file_records.proofs.sides.add_person.Goals as goal

pub loop-line-preserved : goal.loop-line-preserved
loop-line-preserved c =
    let ns = c.args.lines.now in
    let i = c.loop-line.line-index in
    let front = front_of ns i c.line-item.result c.loop-line-test.true c.line-item.is in
    record {
      count = omega (arith, c.loop-line.invariant.count);
      sides = sides_step c.args.roots.now c.args.person (λ k. member_in c.args.members.now k c.args.person)
          (tree_of c.line-item.result) (trees_of (drop (i + 1) ns)) (trees_of (drop i ns)) (taken_at c.loop-line.taken)
          (taken_at c.add_line.new.taken) front c.in_ok-add_line.ensures.taken c.loop-line.at (c.loop-line.at + 1)
          c.loop-line.sides.items c.add_line.new.sides.items _ refl c.in_ok-add_line.ensures.sides
          c.loop-line.invariant.sides;
      report = said_step c.args.roots.now c.args.person (λ k. member_in c.args.members.now k c.args.person)
          (tree_of c.line-item.result) (trees_of (drop (i + 1) ns)) (trees_of (drop i ns)) (taken_at c.loop-line.taken)
          (taken_at c.add_line.new.taken) front c.in_ok-add_line.ensures.taken c.loop-line.report.items
          c.add_line.new.report.items _ c.in_ok-add_line.ensures.report c.loop-line.invariant.report;
    }
