use Rattle.std.proofs.Common.{◌≡◌, map, take}
use Rattle.record_kinds.specs.Model as model
use Rattle.histories.proofs.remarks.children_of.Given as goal

abbrev pub invariant-each : goal.invariant-each
invariant-each l = l.numbers.items ≡ map (λ (m : model.Child). m.person) (take l.child-index l.children)
