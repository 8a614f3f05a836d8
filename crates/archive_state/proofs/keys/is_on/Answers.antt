use Rattle.std.proofs.Common.{◌≡◌, ap, nat_eq, ◌∙◌, rules}
use Rattle.record_kinds.specs.Model as model
use Rattle.archive_state.proofs.Keyed.{item_iff}
use Rattle.archive_state.proofs.keys.is_on.Goals as goal

pub returns-then-eq : goal.returns-then-eq
returns-then-eq c =
    let page : c.args.entry.now.page ≡ c.args.page.now = search rules in
    item_iff c.eq-then-eq.result _ _ c.args.entry.now.item c.args.item page
    (c.eq-then-eq.ensures ∙ ap (λ (e : model.Entry). nat_eq e.item.number c.args.item.number) c.entry.view_is)
