use Rattle.std.proofs.Common.{◌≡◌, take}
use Rattle.stored_lines.proofs.comparing.are_same.Given as goal

abbrev pub invariant-pairs : goal.invariant-pairs
invariant-pairs l = take l.i l.a ≡ take l.i l.b
