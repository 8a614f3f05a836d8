use Rattle.std.proofs.Common.{◌∙◌, sym}
use Rattle.node_writing.proofs.Appending.{then_page}
use Rattle.node_writing.proofs.families.push_family.Goals as goal
use Rattle.list_laws.proofs.Outcomes.{ok_then}

pub returns : goal.returns
returns g c = rw (sym c.family.view_is, sym c.deref.ensures.value, sym c.deref-2.ensures.value)
    (ok_then c.push_children.result (λ e. e
    ∙ then_page (g.N.Named.names c.args.index.now) 1 _ _ _ _ c.in_ok-push_partners.ensures)
    c.push_children.ensures)
