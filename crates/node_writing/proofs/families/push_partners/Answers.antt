use Rattle.record_shapes.specs.Shapes.{partner_line}
use Rattle.node_writing.proofs.Appending.{all_written, then_next}
use Rattle.node_writing.proofs.families.push_partners.Goals as goal

pub partners-preserved : goal.partners-preserved
partners-preserved g c = then_next (g.N.Named.names c.args.index.now) 1 partner_line c.args.partners.now
    c.partners.partner-index c.partner-item.result _ _ _
    c.partners-test.true c.partner-item.is c.in_ok-push_partner.ensures c.partners.invariant

pub returns : goal.returns
returns g c = all_written (g.N.Named.names c.args.index.now) 1 partner_line c.args.partners.now c.partners.partner-index
    _ _ c.partners-test.false
    c.partners.invariant
