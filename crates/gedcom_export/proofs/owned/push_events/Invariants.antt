use Rattle.std.proofs.Common.{◌≡◌, ◌++◌, drop, string_bytes}
use Rattle.std.specs.List.{flat_map}
use Rattle.node_writing.specs.Pages.{page}
use Rattle.gedcom_export.specs.Shown.{names_in}
use Rattle.gedcom_export.proofs.Lines.{evented}
use Rattle.gedcom_export.proofs.owned.push_events.Given as goal

abbrev pub invariant-events : goal.invariant-events
invariant-events l = string_bytes l.text ++ page (names_in l.index) 1
    (flat_map (evented l.state.records l.index) (drop l.event-index l.events))
    ≡ string_bytes l.fn.text ++ page (names_in l.index) 1 (flat_map (evented l.state.records l.index) l.events)
