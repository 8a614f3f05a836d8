use Rattle.std.proofs.Common.{◌≡◌, take}
use Rattle.stored_lines.proofs.comparing.+are_same_branches.Given as goal

abbrev pub invariant-children : goal.invariant-children
invariant-children l = take l.i l.a-inside.children.items ≡ take l.i l.b-inside.children.items
