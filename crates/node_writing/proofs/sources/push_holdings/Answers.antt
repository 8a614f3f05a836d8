use Rattle.record_shapes.specs.Shapes.{holding_line}
use Rattle.node_writing.proofs.Appending.{all_written, then_next}
use Rattle.node_writing.proofs.sources.push_holdings.Goals as goal

pub holdings-preserved : goal.holdings-preserved
holdings-preserved g c = then_next (g.N.Named.names c.args.index.now) 1 holding_line c.args.holdings.now
    c.holdings.holding-index c.holding-item.result _ _ _
    c.holdings-test.true c.holding-item.is c.in_ok-push_holding.ensures c.holdings.invariant

pub returns : goal.returns
returns g c = all_written (g.N.Named.names c.args.index.now) 1 holding_line c.args.holdings.now c.holdings.holding-index
    _ _ c.holdings-test.false
    c.holdings.invariant
