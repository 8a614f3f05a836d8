use Rattle.std.proofs.Common.{refl, inl, arith}
use Rattle.gedcom_tree.specs.Text.{line_text, trailer}
use Rattle.gedcom_tree.proofs.Handing.{
  going_on,
  going_stops,
  going_rests,
  node_next,
  node_last,
  low_next,
  if_err,
  begins_same,
}
use Rattle.gedcom_tree.proofs.writing.write_nodes.Goals as goal

pub put_node-requires : goal.put_node-requires
put_node-requires g c =
    (low_next c.args.nodes.now c.loop-node.node-index c.node-item.result c.loop-node-test.true c.node-item.is
    c.loop-node.invariant.low).0

pub returns-in-Err-clause-err : goal.returns-in-Err-clause-err
returns-in-Err-clause-err g c = (
  c.in-Err.ensures.err.0,
  going_stops _ _ _ _ _ _ _ _ c.loop-node.invariant.going
      (node_next c.args.nodes.now c.loop-node.node-index c.node-item.result (line_text trailer) c.loop-node-test.true
      c.node-item.is) c.in-Err.ensures.err.1,
)

pub loop-node-preserved : goal.loop-node-preserved
loop-node-preserved g c = record {
  going = going_on _ _ _ _ _ _ _ _ _ c.loop-node.invariant.going
      (node_next c.args.nodes.now c.loop-node.node-index c.node-item.result (line_text trailer) c.loop-node-test.true
      c.node-item.is) c.in-Ok.ensures.ok;
  low = (low_next c.args.nodes.now c.loop-node.node-index c.node-item.result c.loop-node-test.true c.node-item.is
      c.loop-node.invariant.low).1;
}

pub returns-in-Ok-write_line-clause-err : goal.returns-in-Ok-write_line-clause-err
returns-in-Ok-write_line-clause-err g c =
    if_err c.hand_over.result _ _
    (λ f h. (
      h.0,
      going_stops _ _ _ _ _ _ _ _ c.loop-node.invariant.going
          (node_last c.args.nodes.now c.loop-node.node-index (line_text trailer) (omega arith))
          (begins_same _ _ _ _ c.in-Ok-write_line.ensures.ok h.1),
    ))
    c.hand_over.ensures.err

pub returns-clause-err : goal.returns-clause-err
returns-clause-err g c = (inl (refl, refl), going_rests _ _ _ _ _ c.loop-node.invariant.going)
