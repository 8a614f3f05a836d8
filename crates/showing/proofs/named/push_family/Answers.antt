use Rattle.std.proofs.Common.{ℕ, List, ◌++◌, map, ap, ap₂, append_assoc, ◌∙◌}
use Rattle.std.proofs.lemmas.Result.{on_ok_weaker}
use Rattle.record_kinds.specs.Model as model
use Rattle.showing.proofs.named.push_family.Goals as goal

pub returns : goal.returns
returns c =
    let partners = λ (ps : List model.Partner). map (λ (p : model.Partner). p.person) ps in
    let children = λ (cs : List model.Child). map (λ (x : model.Child). x.person) cs in
    on_ok_weaker c.push_children.result (λ e. e
    ∙ ap₂ (λ (l : List ℕ) (cs : List model.Child). l ++ children cs)
    (c.in_ok-push_partners.ensures ∙ ap (λ (ps : List model.Partner). c.args.numbers.now.items ++ partners ps)
    (c.deref.ensures.value ∙ ap (λ (f : model.Family). f.partners) c.family.view_is))
    (c.deref-2.ensures.value ∙ ap (λ (f : model.Family). f.children) c.family.view_is)
    ∙ append_assoc c.args.numbers.now.items (partners c.args.family.now.partners)
    (children c.args.family.now.children)) c.push_children.ensures
