use Rattle.std.proofs.Common.{◌≡◌, List, true, subst, arith}
use Rattle.std.specs.Prelude.{◌==◌}
use Rattle.std.specs.List.{list_any}
use Rattle.std.proofs.lemmas.List.{take_all}
use Rattle.record_kinds.specs.Model as model
use Rattle.masking.specs.Sets.{Gets}
use Rattle.masking.proofs.sets.add_partners.Goals as goal

pub returns : goal.returns
returns c = subst
    (λ (ps : List model.Partner). Gets c.args.numbers.now c.partners.numbers
    (λ n. list_any (λ (p : model.Partner). p.person == n) ps ≡ true))
    (take_all c.partners.partner-index c.args.partners.now (omega (arith, c.partners-test.false)))
    c.partners.invariant
