use Rattle.std.proofs.Common.{◌≡◌, ℕ, take}
use Rattle.std.specs.BTreeSet as set
use Rattle.std.specs.FinMap.{get, keys}
use Rattle.std.specs.List.{list_any}
use Rattle.std.specs.Ordering.{nat_cmp}
use Rattle.plain_export.specs.LeftOut.{names_place}
use Rattle.plain_export.proofs.naming.named_places.Given as goal

abbrev pub invariant-numbers : goal.invariant-numbers
invariant-numbers l = (n : ℕ) → set.contains nat_cmp l.named n
    ≡ list_any (λ k. names_place n (get l.state.records k)) (take l.number-index (keys l.state.records))
