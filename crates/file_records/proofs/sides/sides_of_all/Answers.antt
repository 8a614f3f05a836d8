use Rattle.std.proofs.Common.{◌+◌, drop, refl, arith}
use Rattle.import_definitions.specs.Nodes.{tree_of, trees_at}
use Rattle.file_records.specs.SideViews.{member_in}
use Rattle.file_records.proofs.Taking.{said_more, sides_more}
use Rattle.file_records.proofs.sides.sides_of_all.Goals as goal
use Rattle.import_definitions.proofs.Places.{trees_less}

pub loop-node-preserved : goal.loop-node-preserved
loop-node-preserved c =
    let ns = c.nodes-node-items.result.now in
    let i = c.loop-node.node-index in
    let front = trees_less ns i c.node-item.result c.loop-node-test.true c.node-item.is in
    record {
      count = omega (arith, c.loop-node.invariant.count);
      sides = sides_more c.args.roots.now (member_in c.args.members.now) (tree_of c.node-item.result.now)
          (trees_at (drop (i + 1) ns)) (trees_at (drop i ns)) front c.loop-node.person (c.loop-node.person + 1) refl
          c.loop-node.all.items c.add_node.new.sides.items _ c.in_ok-add_node.ensures.sides
          c.loop-node.invariant.sides;
      report = said_more c.args.roots.now (member_in c.args.members.now) (tree_of c.node-item.result.now)
          (trees_at (drop (i + 1) ns)) (trees_at (drop i ns)) front c.loop-node.person (c.loop-node.person + 1) refl
          c.loop-node.report.items c.add_node.new.report.items _ c.in_ok-add_node.ensures.report
          c.loop-node.invariant.report;
    }
