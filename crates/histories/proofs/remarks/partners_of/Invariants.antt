use Rattle.std.proofs.Common.{◌≡◌, map, take}
use Rattle.record_kinds.specs.Model as model
use Rattle.histories.proofs.remarks.partners_of.Given as goal

abbrev pub invariant-each : goal.invariant-each
invariant-each l = l.numbers.items ≡ map (λ (m : model.Partner). m.person) (take l.partner-index l.partners)
