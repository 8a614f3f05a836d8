use Rattle.std.proofs.Common.{arith}
use Rattle.import_definitions.specs.Nodes.{trees_at}
use Rattle.import_definitions.proofs.Sifted.{ends_length, end_kept, kept_step, said_step}
use Rattle.import_definitions.proofs.roots.sift.Goals as goal

pub offset_bounds-ends-at : goal.offset_bounds-ends-at
offset_bounds-ends-at c = omega (
  arith,
  ends_length c.args.nodes.now c.args.ends.now c.requires,
  c.loop-node.invariant.count,
)

pub loop-node-preserved : goal.loop-node-preserved
loop-node-preserved c =
    let ns = c.args.nodes.now in
    let i = c.loop-node.node-index in
    let n = c.node-item.result in
    let broken = end_kept ns c.args.ends.now c.loop-node.at i _ n c.loop-node.invariant.count c.loop-node-test.true
    c.node-item.is c.requires in
    record {
      count = omega (arith, c.loop-node.invariant.count);
      kept = kept_step (trees_at ns) ns i n _ (trees_at c.loop-node.found.items)
          (trees_at c.sift_node.new.found.items) _
          c.loop-node-test.true c.node-item.is broken c.in_ok-sift_node.ensures.found c.loop-node.invariant.kept;
      report = said_step (trees_at ns) ns i n _ c.loop-node.report.items c.sift_node.new.report.items _
          c.loop-node-test.true c.node-item.is broken c.in_ok-sift_node.ensures.report c.loop-node.invariant.report;
    }
