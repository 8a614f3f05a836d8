use Rattle.std.proofs.Common.{◌≡◌, take}
use Rattle.store_rows.specs.Grouped.{slip_group_at, AreSlipsOf}
use Rattle.store_rows.proofs.state.put_slips.Given as goal

abbrev pub invariant-rows : goal.invariant-rows
invariant-rows l = AreSlipsOf (slip_group_at l.groups) (take l.row-index l.rows) l.state.slips
    × (l.state ≡ record l.initial.state { slips = l.state.slips })
