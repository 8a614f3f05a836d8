use Rattle.std.proofs.Common.{drop, ◌+◌}
use Rattle.import_definitions.specs.Nodes.{tree_of, trees_of}
use Rattle.file_records.specs.SideViews.{member_at}
use Rattle.file_records.proofs.Fronts.{front_of}
use Rattle.file_records.proofs.Naming.{doubled_step, named_step}
use Rattle.file_records.proofs.members.members_on.Goals as goal

pub loop-line-preserved : goal.loop-line-preserved
loop-line-preserved c =
    let front = front_of c.args.lines.now c.loop-line.line-index c.line-item.result c.loop-line-test.true
    c.line-item.is in
    record {
      members = named_step c.args.roots.now (tree_of c.line-item.result)
          (trees_of (drop (c.loop-line.line-index + 1) c.args.lines.now))
          (trees_of (drop c.loop-line.line-index c.args.lines.now)) (member_at c.loop-line.found)
          (member_at c.take_line.new.found) _ front c.in_ok-take_line.ensures.members c.loop-line.invariant.members;
      report = doubled_step c.args.roots.now (tree_of c.line-item.result)
          (trees_of (drop (c.loop-line.line-index + 1) c.args.lines.now))
          (trees_of (drop c.loop-line.line-index c.args.lines.now)) (member_at c.loop-line.found)
          (member_at c.take_line.new.found) c.loop-line.report.items c.take_line.new.report.items _ front
          c.in_ok-take_line.ensures.members c.in_ok-take_line.ensures.report c.loop-line.invariant.report;
    }
