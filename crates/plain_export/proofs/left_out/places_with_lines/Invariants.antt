use Rattle.std.proofs.Common.{◌≡◌, take}
use Rattle.std.specs.FinMap.{get, keys}
use Rattle.std.specs.List.{filter}
use Rattle.plain_export.specs.LeftOut.{carries_lines}
use Rattle.plain_export.proofs.left_out.places_with_lines.Given as goal

abbrev pub invariant-numbers : goal.invariant-numbers
invariant-numbers l = l.found.items
    ≡ filter (λ n. carries_lines (get l.state.records n)) (take l.number-index (keys l.state.records))
