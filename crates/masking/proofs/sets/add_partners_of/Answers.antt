use Rattle.std.proofs.Common.{◌≡◌, List, true, subst, ap, ◌∙◌}
use Rattle.std.specs.Prelude.{◌==◌, OnOk}
use Rattle.std.specs.List.{list_any}
use Rattle.record_kinds.specs.Model as model
use Rattle.masking.specs.Sets.{Gets}
use Rattle.masking.proofs.sets.add_partners_of.Goals as goal

pub returns : goal.returns
returns c = subst
    (λ (ps : List model.Partner). OnOk c.add_partners.result (Gets c.args.numbers.now c.add_partners.new.numbers
    (λ n. list_any (λ (p : model.Partner). p.person == n) ps ≡ true)))
    (c.deref.ensures.value ∙ ap (λ (x : model.Family). x.partners) c.family.view_is) c.add_partners.ensures
