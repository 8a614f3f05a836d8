use Rattle.std.proofs.Common.{◌≡◌, take}
use Rattle.std.specs.FinMap.{get, keys}
use Rattle.std.specs.List.{filter}
use Rattle.plain_export.specs.LeftOut.{is_our_own}
use Rattle.plain_export.proofs.left_out.our_own_records.Given as goal

abbrev pub invariant-numbers : goal.invariant-numbers
invariant-numbers l = l.found.items
    ≡ filter (λ n. is_our_own (get l.state.records n)) (take l.number-index (keys l.state.records))
