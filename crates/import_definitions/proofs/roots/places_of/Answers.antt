use Rattle.std.proofs.Common.{arith}
use Rattle.import_definitions.specs.Views.{kept_at}
use Rattle.import_definitions.proofs.Places.{place_step}
use Rattle.import_definitions.proofs.roots.places_of.Goals as goal

pub loop-node-preserved : goal.loop-node-preserved
loop-node-preserved c = record {
  count = omega (arith, c.loop-node.invariant.count);
  places = place_step c.args.nodes.now c.loop-node.node-index c.loop-node.at c.node-item.result
      (kept_at c.loop-node.places) (kept_at c.add_node.new.places) c.loop-node-test.true c.node-item.is
      c.loop-node.invariant.count c.loop-node.invariant.places c.in_ok-add_node.ensures;
}
