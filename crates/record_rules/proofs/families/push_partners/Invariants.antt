use Rattle.std.proofs.Common.{◌≡◌, ◌++◌, take, map}
use Rattle.record_kinds.specs.Model as model
use Rattle.record_rules.proofs.families.push_partners.Given as goal

abbrev pub invariant-partners : goal.invariant-partners
invariant-partners l = l.numbers.items ≡ l.fn.numbers.items ++ map (λ (p : model.Partner). p.person)
    (take l.partner-index l.partners)
