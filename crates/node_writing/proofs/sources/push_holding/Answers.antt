use Rattle.std.proofs.Common.{◌∙◌, sym}
use Rattle.node_writing.proofs.Appending.{then_below, then_page}
use Rattle.node_writing.proofs.sources.push_holding.Goals as goal
use Rattle.list_laws.proofs.Outcomes.{ok_then}

pub returns : goal.returns
returns g c = rw (sym c.holding.view_is, sym c.deref.ensures.value) (ok_then c.push_carried.result (λ e. e
    ∙ then_page (g.N.Named.names c.args.index.now) 2 _ _ _ _ c.in_ok-push_maybe.ensures
    ∙ then_below (g.N.Named.names c.args.index.now) 1 _ _ _ _ _ c.in_ok-push_pointer.ensures)
    c.push_carried.ensures)
