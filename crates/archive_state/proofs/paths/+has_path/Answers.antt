use Rattle.std.proofs.Common.{◌≡◌, sym, ap, ◌∙◌, arith, rules}
use Rattle.record_kinds.specs.Model as model
use Rattle.archive_state.proofs.Climbing.{none_iff, other_name_iff, alone_iff, above_iff, other_end_iff, within_iff}
use Rattle.archive_state.proofs.paths.+has_path.Goals as goal

pub returns-in_default : goal.returns-in_default
returns-in_default t c = none_iff _ _ _ (c.in_default.ensures)

pub returns-in_default-behind : goal.returns-in_default-behind
returns-in_default-behind t c =
    let called : c.as_bytes.result.now ≡ c.in-Some.place.now.name = c.as_bytes.ensures.value ∙ c.as_str.ensures.same
    ∙ ap (λ (x : model.Place). x.name) c.place.view_is in
    other_name_iff _ _ c.in-Some.place.now _ (c.in-Some.ensures) (rw called at (c.in_default-behind.ensures))

pub returns-in_default-parent : goal.returns-in_default-parent
returns-in_default-parent t c =
    let called : c.as_bytes.result.now ≡ c.in-Some.place.now.name = c.as_bytes.ensures.value ∙ c.as_str.ensures.same
    ∙ ap (λ (x : model.Place). x.name) c.place.view_is in
    alone_iff _ _ c.in-Some.place.now _ c.in-Some-behind.rest.now _ (c.in-Some.ensures)
    (rw called at (c.in-Some-behind.ensures))
    (ap (λ (x : model.Place). x.parent) (sym c.place.view_is) ∙ c.in_default-parent.is) (search rules)

pub returns-then-parent-number : goal.returns-then-parent-number
returns-then-parent-number t c =
    above_iff _ _ c.in-Some-parent.parent c.in-Some.place.now _ (c.in-Some.ensures)
    (ap (λ (x : model.Place). x.parent) (sym c.place.view_is) ∙ c.in-Some-parent.is) (omega arith)

pub returns-in-Some-behind-2 : goal.returns-in-Some-behind-2
returns-in-Some-behind-2 t c =
    let called : c.as_bytes.result.now ≡ c.in-Some.place.now.name = c.as_bytes.ensures.value ∙ c.as_str.ensures.same
    ∙ ap (λ (x : model.Place). x.name) c.place.view_is in
    within_iff _ _ c.in-Some-parent.parent c.in-Some.place.now _ c.in-Some-behind.rest.now c.in-Some-behind-2.above.now
    _ (c.in-Some.ensures) (rw called at (c.in-Some-behind.ensures))
    (ap (λ (x : model.Place). x.parent) (sym c.place.view_is) ∙ c.in-Some-parent.is) (omega arith)
    (c.in-Some-behind-2.ensures) c.has_path.ensures

pub returns-in-None : goal.returns-in-None
returns-in-None t c =
    let called : c.as_bytes.result.now ≡ c.in-Some.place.now.name = c.as_bytes.ensures.value ∙ c.as_str.ensures.same
    ∙ ap (λ (x : model.Place). x.name) c.place.view_is in
    other_end_iff _ _ c.in-Some-parent.parent c.in-Some.place.now _ c.in-Some-behind.rest.now (c.in-Some.ensures)
    (rw called at (c.in-Some-behind.ensures))
    (ap (λ (x : model.Place). x.parent) (sym c.place.view_is) ∙ c.in-Some-parent.is) (c.in-None.ensures)
