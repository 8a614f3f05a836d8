use Rattle.std.proofs.Common.{◌∙◌, sym}
use Rattle.node_writing.proofs.Appending.{then_below, then_page}
use Rattle.node_writing.proofs.events.push_participant.Goals as goal
use Rattle.list_laws.proofs.Outcomes.{ok_then}

pub returns : goal.returns
returns g c = rw (sym c.participant.view_is, sym c.as_str.ensures.same, sym c.deref.ensures.value)
    (ok_then c.push_carried.result (λ e. e
    ∙ then_page (g.N.Named.names c.args.index.now) 3 _ _ _ _ c.in_ok-push_role.ensures
    ∙ then_below (g.N.Named.names c.args.index.now) 2 _ _ _ _ _ c.in_ok-push_pointer.ensures)
    c.push_carried.ensures)
