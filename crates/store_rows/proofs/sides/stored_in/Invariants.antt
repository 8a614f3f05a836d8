use Rattle.std.proofs.Common.{◌≡◌, map, take}
use Rattle.store_rows.proofs.sides.stored_in.Given as goal

abbrev pub invariant-rows : goal.invariant-rows
invariant-rows l = l.stored.items ≡ map (λ r. r.1.1.1) (take l.row-index l.lines)
