use Rattle.record_shapes.specs.Shapes.{name_line}
use Rattle.node_writing.proofs.Appending.{all_written, then_next}
use Rattle.node_writing.proofs.persons.push_names.Goals as goal

pub names-preserved : goal.names-preserved
names-preserved g c = then_next (g.N.Named.names c.args.index.now) 1 name_line c.args.names.now c.names.name-index
    c.name-item.result _ _ _
    c.names-test.true c.name-item.is c.in_ok-push_name.ensures c.names.invariant

pub returns : goal.returns
returns g c = all_written (g.N.Named.names c.args.index.now) 1 name_line c.args.names.now c.names.name-index _ _
    c.names-test.false
    c.names.invariant
