use Rattle.std.proofs.Common.{◌≡◌, ◌++◌, map, take}
use Rattle.record_kinds.specs.Model as model
use Rattle.showing.proofs.named.push_children.Given as goal

abbrev pub invariant-each : goal.invariant-each
invariant-each l = l.numbers.items
    ≡ l.fn.numbers.items ++ map (λ (x : model.Child). x.person) (take l.child-index l.children)
