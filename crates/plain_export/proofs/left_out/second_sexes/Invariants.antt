use Rattle.std.proofs.Common.{◌≡◌, take}
use Rattle.std.specs.FinMap.{get, keys}
use Rattle.std.specs.List.{filter}
use Rattle.plain_export.specs.LeftOut.{has_second_sex}
use Rattle.plain_export.proofs.left_out.second_sexes.Given as goal

abbrev pub invariant-numbers : goal.invariant-numbers
invariant-numbers l = l.found.items
    ≡ filter (λ n. has_second_sex (get l.state.records n)) (take l.number-index (keys l.state.records))
