use Rattle.std.proofs.Common.{◌≡◌, drop}
use Rattle.std.specs.List.{flat_map}
use Rattle.sound_records.specs.Standing.{first_unmet}
use Rattle.sound_records.proofs.linked.first_in.Given as goal

abbrev pub invariant-items : goal.invariant-items
invariant-items g l = first_unmet l.may_miss l.state.records
    (flat_map g.T.Linked.links_of (drop l.item-index l.items))
    ≡ first_unmet l.may_miss l.state.records (flat_map g.T.Linked.links_of l.items)
