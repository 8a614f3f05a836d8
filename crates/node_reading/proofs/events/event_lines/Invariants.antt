use Rattle.std.proofs.Common.{◌≡◌}
use Rattle.std.specs.Vec.Iter.{into_iter_items}
use Rattle.node_reading.specs.Drafts.{event_with, none_seen, seen}
use Rattle.node_reading.proofs.events.event_lines.Given as goal

abbrev pub invariant-lines : goal.invariant-lines
invariant-lines g l = event_with (g.K.Known.known l.known) (seen l.told) (into_iter_items l.line-iterator)
    ≡ event_with (g.K.Known.known l.known) none_seen l.fn.lines.items
