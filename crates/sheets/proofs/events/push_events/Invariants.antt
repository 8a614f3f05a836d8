use Rattle.std.proofs.Common.{◌≡◌, ◌++◌, take, string_bytes}
use Rattle.std.specs.FinMap as map
use Rattle.std.specs.List.{flat_map}
use Rattle.gedcom_export.specs.declared.index_owned.Owned as owned
use Rattle.sheets.specs.Indexed.{indexed}
use Rattle.sheets.specs.Owned as texts
use Rattle.sheets.proofs.events.push_events.Given as goal

abbrev pub invariant-events : goal.invariant-events
invariant-events l =
    string_bytes l.out
    ≡ string_bytes l.fn.out ++ flat_map (λ (o : owned.Owned). texts.event_in (indexed l.state.records l.index) o.number
    (map.get l.state.records o.number)) (take l.event-index l.events)
