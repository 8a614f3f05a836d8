use Rattle.std.proofs.Common.{◌≡◌, drop}
use Rattle.record_shapes.specs.Fields.{event_field}
use Rattle.record_shapes.specs.Untaken.{event_leaves}
use Rattle.record_rules.specs.Judged.{are_untaken}
use Rattle.record_rules.proofs.untaken.event_lines_untaken.Given as goal

abbrev pub invariant-lines : goal.invariant-lines
invariant-lines g l = are_untaken (event_field (g.K.Known.known l.known)) (event_leaves l.event)
    (drop l.line-index l.line-items)
    ≡ are_untaken (event_field (g.K.Known.known l.known)) (event_leaves l.event) l.event.carried
