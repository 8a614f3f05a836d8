use Rattle.std.proofs.Common.{◌≡◌, ◌+◌, drop}
use Rattle.std.specs.List.{position_or_len}
use Rattle.store_rows.specs.Sides.{begins_side}
use Rattle.store_rows.proofs.sides.next_start.Given as goal

abbrev pub invariant-lines : goal.invariant-lines
invariant-lines l = position_or_len (λ r. begins_side r.1) l.lines ≡ l.at + position_or_len (λ r. begins_side r.1)
    (drop l.at l.lines)
