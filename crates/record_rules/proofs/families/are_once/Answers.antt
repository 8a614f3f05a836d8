use Rattle.std.proofs.Common.{◌≡◌, ◌++◌, List, ℕ, ◌∙◌, ap, subst, map, ◌↔◌}
use Rattle.std.specs.Prelude.{IfOk, IsTrue}
use Rattle.record_kinds.specs.Model as model
use Rattle.record_shapes.specs.Lists.{IsOnce}
use Rattle.record_shapes.specs.Members.{members}
use Rattle.record_rules.proofs.families.are_once.Goals as goal

pub returns : goal.returns
returns c =
    let partners : List model.Partner → List ℕ = map (λ (p : model.Partner). p.person) in
    let children : List model.Child → List ℕ = map (λ (x : model.Child). x.person) in
    let first : c.push_partners.new.numbers.items ≡ partners c.args.family.now.partners =
    c.in_ok-push_partners.ensures ∙ ap (λ ns. ns ++ partners c.deref.result.now) c.new-numbers.ensures.items
    ∙ ap partners (c.deref.ensures.value ∙ ap (λ (x : model.Family). x.partners) c.family.view_is) in
    let all : c.as_slice.result.now ≡ members c.args.family.now =
    c.as_slice.ensures.value ∙ c.in_ok-push_children.ensures
    ∙ ap (λ ns. ns ++ children c.deref-2.result.now) first
    ∙ ap (λ cs. partners c.args.family.now.partners ++ children cs)
    (c.deref-2.ensures.value ∙ ap (λ (x : model.Family). x.children) c.family.view_is) in
    subst (λ ns. IfOk c.is_each_once.result (λ b. IsTrue b ↔ IsOnce ns)) all c.is_each_once.ensures
