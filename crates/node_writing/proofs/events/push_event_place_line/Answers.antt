use Rattle.std.proofs.Common.{◌∙◌, ◌∷◌, [], sym}
use Rattle.record_shapes.specs.Shapes.{loc_line}
use Rattle.node_writing.proofs.Appending.{then_more}
use Rattle.node_writing.proofs.events.push_event_place_line.Goals as goal
use Rattle.list_laws.proofs.Outcomes.{ok_then}

pub returns : goal.returns
returns g c = rw (sym c.place.view_is, sym c.deref.ensures.value) (ok_then c.push_carried.result (λ e. e
    ∙ then_more (g.N.Named.names c.args.index.now) 2 _ _ _ _
    (loc_line c.place.inside.place ∷ []) _ c.in_ok-push_place_line.ensures)
    c.push_carried.ensures)
