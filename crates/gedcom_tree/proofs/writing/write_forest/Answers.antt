use Rattle.gedcom_tree.specs.Flat.{flats}
use Rattle.gedcom_tree.proofs.Handing.{on_err, begins_same}
use Rattle.gedcom_tree.proofs.Streamed.{forest_low, text_is}
use Rattle.gedcom_tree.proofs.writing.write_forest.Goals as goal

pub write_nodes-requires : goal.write_nodes-requires
write_nodes-requires g c = forest_low c.args.forest.now (flats 0 c.nodes.result.now) c.nodes.ensures.nodes
    c.nodes.ensures.forest

pub returns-clause-written : goal.returns-clause-written
returns-clause-written g c = rw (text_is c.args.forest.now (flats 0 c.nodes.result.now) c.nodes.ensures.nodes) at
    c.write_nodes.ensures.ok

pub returns-clause-begun : goal.returns-clause-begun
returns-clause-begun g c = on_err c.write_nodes.result _ _ _
    (begins_same _ _ _ _ (text_is c.args.forest.now (flats 0 c.nodes.result.now) c.nodes.ensures.nodes))
    c.write_nodes.ensures.err
