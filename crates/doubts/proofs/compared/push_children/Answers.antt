use Rattle.doubts.specs.Doubts.{child_doubts}
use Rattle.doubts.specs.Gathered.{seen}
use Rattle.doubts.proofs.Listed.{one_more}
use Rattle.doubts.proofs.compared.push_children.Goals as goal

pub each-preserved : goal.each-preserved
each-preserved c = one_more (child_doubts (seen c.args.known.now) c.args.number c.args.day) c.args.children.now
    c.each.child-index c.child-item.result c.args.found.now.items c.each.found.items c.push_child.new.found.items
    c.each-test.true c.child-item.is c.each.invariant c.in_ok-push_child.ensures
