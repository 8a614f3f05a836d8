use Rattle.std.proofs.Common.{◌∙◌, sym}
use Rattle.node_writing.proofs.Appending.{then_page}
use Rattle.node_writing.proofs.sources.push_source.Goals as goal
use Rattle.list_laws.proofs.Outcomes.{ok_then}

pub returns : goal.returns
returns g c = rw (sym c.source.view_is, sym c.deref.ensures.value, sym c.deref-2.ensures.value)
    (ok_then c.push_carried.result (λ e. e
    ∙ then_page (g.N.Named.names c.args.index.now) 1 _ _ _ _ c.in_ok-push_holdings.ensures
    ∙ then_page (g.N.Named.names c.args.index.now) 1 _ _ _ _ c.in_ok-push_maybe-3.ensures
    ∙ then_page (g.N.Named.names c.args.index.now) 1 _ _ _ _ c.in_ok-push_maybe-2.ensures
    ∙ then_page (g.N.Named.names c.args.index.now) 1 _ _ _ _ c.in_ok-push_maybe.ensures)
    c.push_carried.ensures)
