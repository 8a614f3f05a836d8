use Rattle.record_shapes.specs.Shapes.{child_line}
use Rattle.node_writing.proofs.Appending.{all_written, then_next}
use Rattle.node_writing.proofs.families.push_children.Goals as goal

pub children-preserved : goal.children-preserved
children-preserved g c = then_next (g.N.Named.names c.args.index.now) 1 child_line c.args.children.now
    c.children.child-index c.child-item.result _ _ _
    c.children-test.true c.child-item.is c.in_ok-push_child.ensures c.children.invariant

pub returns : goal.returns
returns g c = all_written (g.N.Named.names c.args.index.now) 1 child_line c.args.children.now c.children.child-index _ _
    c.children-test.false
    c.children.invariant
