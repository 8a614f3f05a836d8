use Rattle.std.proofs.Common.{◌≡◌}
use Rattle.std.specs.Vec.Iter.{into_iter_items}
use Rattle.node_reading.specs.Partly.{place_called, place_with}
use Rattle.node_reading.proofs.places.placed.Given as goal

abbrev pub invariant-lines : goal.invariant-lines
invariant-lines g l = place_with (g.K.Known.known l.earlier) l.place (into_iter_items l.line-iterator)
    ≡ place_with (g.K.Known.known l.earlier) (place_called l.fn.named.name) l.fn.named.lines.items
