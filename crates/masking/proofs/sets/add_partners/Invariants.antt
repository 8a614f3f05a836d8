use Rattle.std.proofs.Common.{◌≡◌, true, take}
use Rattle.std.specs.Prelude.{◌==◌}
use Rattle.std.specs.List.{list_any}
use Rattle.record_kinds.specs.Model as model
use Rattle.masking.specs.Sets.{Gets}
use Rattle.masking.proofs.sets.add_partners.Given as goal

abbrev pub invariant-partners : goal.invariant-partners
invariant-partners l = Gets l.fn.numbers l.numbers
    (λ n. list_any (λ (p : model.Partner). p.person == n) (take l.partner-index l.partners) ≡ true)
