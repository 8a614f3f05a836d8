use Rattle.std.proofs.Common.{◌∙◌, sym}
use Rattle.node_writing.proofs.Appending.{then_page}
use Rattle.node_writing.proofs.sources.push_place.Goals as goal
use Rattle.list_laws.proofs.Outcomes.{ok_then}

pub returns : goal.returns
returns g c = rw (sym c.place.view_is, sym c.as_str.ensures.same, sym c.deref.ensures.value)
    (ok_then c.push_carried.result (λ e. e
    ∙ then_page (g.N.Named.names c.args.index.now) 1 _ _ _ _ c.in_ok-push_parent.ensures
    ∙ then_page (g.N.Named.names c.args.index.now) 1 _ _ _ _ c.in_ok-push_words.ensures)
    c.push_carried.ensures)
