use Rattle.std.proofs.Common.{◌≡◌, drop}
use Rattle.std.specs.List.{flat_map}
use Rattle.audit.specs.Below.{are_below}
use Rattle.audit.proofs.numbered.all_below.Given as goal

abbrev pub invariant-items : goal.invariant-items
invariant-items g l = are_below l.next (flat_map g.T.Numbered.links_of (drop l.item-index l.items))
    ≡ are_below l.next (flat_map g.T.Numbered.links_of l.items)
