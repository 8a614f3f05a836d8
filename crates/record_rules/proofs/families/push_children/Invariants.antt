use Rattle.std.proofs.Common.{◌≡◌, ◌++◌, take, map}
use Rattle.record_kinds.specs.Model as model
use Rattle.record_rules.proofs.families.push_children.Given as goal

abbrev pub invariant-children : goal.invariant-children
invariant-children l = l.numbers.items ≡ l.fn.numbers.items ++ map (λ (c : model.Child). c.person)
    (take l.child-index l.children)
