use Rattle.std.proofs.Common.{◌≡◌, drop}
use Rattle.std.specs.List.{flat_map}
use Rattle.archive_state.specs.Links.{is_among}
use Rattle.archive_state.proofs.naming.one_names.Given as goal

abbrev pub invariant-items : goal.invariant-items
invariant-items g l = is_among l.number (flat_map g.T.Linked.links_of (drop l.item-index l.items))
    ≡ is_among l.number (flat_map g.T.Linked.links_of l.items)
