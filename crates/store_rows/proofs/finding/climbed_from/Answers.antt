use Rattle.std.proofs.Common.{◌≡◌, sym, ap, ◌∙◌, arith, rules}
use Rattle.record_kinds.specs.Model as model
use Rattle.archive_state.proofs.Climbing.{other_name_iff, alone_iff, above_iff, other_end_iff, within_iff}
use Rattle.store_rows.proofs.finding.climbed_from.Goals as goal

pub returns-in_default-clause-tells : goal.returns-in_default-clause-tells
returns-in_default-clause-tells c =
    let called : c.as_bytes.result.now ≡ c.args.place.now.name = c.as_bytes.ensures.value ∙ c.as_str.ensures.same
    ∙ ap (λ (x : model.Place). x.name) c.place.view_is in
    λ m at. other_name_iff m _ c.args.place.now _ at (rw called at (c.in_default.ensures))

pub returns-in_default-parent-clause-tells : goal.returns-in_default-parent-clause-tells
returns-in_default-parent-clause-tells c =
    let called : c.as_bytes.result.now ≡ c.args.place.now.name = c.as_bytes.ensures.value ∙ c.as_str.ensures.same
    ∙ ap (λ (x : model.Place). x.name) c.place.view_is in
    λ m at. alone_iff m _ c.args.place.now _ c.in-Some.rest.now _ at (rw called at (c.in-Some.ensures))
    (ap (λ (x : model.Place). x.parent) (sym c.place.view_is) ∙ c.in_default-parent.is) (search rules)

pub returns-then-parent-number-clause-tells : goal.returns-then-parent-number-clause-tells
returns-then-parent-number-clause-tells c =
    λ m at. above_iff m _ c.in-Some-parent.parent c.args.place.now _ at
    (ap (λ (x : model.Place). x.parent) (sym c.place.view_is) ∙ c.in-Some-parent.is) (omega arith)

pub returns-in-Some-behind-clause-tells : goal.returns-in-Some-behind-clause-tells
returns-in-Some-behind-clause-tells c =
    let called : c.as_bytes.result.now ≡ c.args.place.now.name = c.as_bytes.ensures.value ∙ c.as_str.ensures.same
    ∙ ap (λ (x : model.Place). x.name) c.place.view_is in
    λ m at is up. within_iff m _ c.in-Some-parent.parent c.args.place.now _ c.in-Some.rest.now
    c.in-Some-behind.above.now is at (rw called at (c.in-Some.ensures))
    (ap (λ (x : model.Place). x.parent) (sym c.place.view_is) ∙ c.in-Some-parent.is) (omega arith)
    (c.in-Some-behind.ensures) up

pub returns-in-None-clause-tells : goal.returns-in-None-clause-tells
returns-in-None-clause-tells c =
    let called : c.as_bytes.result.now ≡ c.args.place.now.name = c.as_bytes.ensures.value ∙ c.as_str.ensures.same
    ∙ ap (λ (x : model.Place). x.name) c.place.view_is in
    λ m at. other_end_iff m _ c.in-Some-parent.parent c.args.place.now _ c.in-Some.rest.now at
    (rw called at (c.in-Some.ensures))
    (ap (λ (x : model.Place). x.parent) (sym c.place.view_is) ∙ c.in-Some-parent.is) (c.in-None.ensures)
