use Rattle.std.proofs.Common.{◌≡◌, take}
use Rattle.std.specs.Prelude.{◌&&◌, not}
use Rattle.std.specs.BTreeSet as set
use Rattle.std.specs.FinMap.{get, keys}
use Rattle.std.specs.List.{filter}
use Rattle.std.specs.Ordering.{nat_cmp}
use Rattle.plain_export.specs.LeftOut.{is_place}
use Rattle.plain_export.proofs.naming.unnamed_places.Given as goal

abbrev pub invariant-numbers : goal.invariant-numbers
invariant-numbers l = l.found.items
    ≡ filter (λ n. is_place (get l.state.records n) && not (set.contains nat_cmp l.named n))
    (take l.number-index (keys l.state.records))
