use Rattle.std.proofs.Common.{◌≡◌, ◌++◌, take}
use Rattle.std.specs.List.{flat_map}
use Rattle.doubts.specs.Doubts.{child_doubts}
use Rattle.doubts.specs.Gathered.{seen}
use Rattle.doubts.proofs.compared.push_children.Given as goal

abbrev pub invariant-each : goal.invariant-each
invariant-each l = l.found.items
    ≡ l.fn.found.items ++ flat_map (child_doubts (seen l.known) l.number l.day) (take l.child-index l.children)
