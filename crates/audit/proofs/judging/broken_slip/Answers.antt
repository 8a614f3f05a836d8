use Rattle.std.proofs.Common.{◌≡◌, true, false, sym, ap, subst, ◌∷◌, ◌∙◌}
use Rattle.record_shapes.specs.Lists.{Ascends}
use Rattle.archive_state.specs.Slips.{Slip}
use Rattle.audit.specs.Parts.{changed}
use Rattle.audit.proofs.Inside.{ascend_from, slip_decided}
use Rattle.audit.proofs.judging.broken_slip.Goals as goal

pub returns-then-not-are_in_order : goal.returns-then-not-are_in_order
returns-then-not-are_in_order c = λ asc.
    let s = c.args.slip.now in
    let cs : s.changes ≡ c.deref.result.now =
    sym (c.deref.ensures.value ∙ ap (λ (x : Slip). x.changes) c.slip.view_is) in
    let all : Ascends (0 ∷ changed c.deref.result.now) = subst (λ ds. Ascends (0 ∷ changed ds)) cs
    (ascend_from c.args.next c.args.number s (c.has_numbers.ensures.0 c.if-not-has_numbers.false) asc) in
    let both : true ≡ false = sym (c.are_in_order.ensures.1 all) ∙ c.if-not-are_in_order.true in absurd cc

pub returns : goal.returns
returns c =
    let s = c.args.slip.now in
    let cs : c.deref.result.now ≡ s.changes =
    c.deref.ensures.value ∙ ap (λ (x : Slip). x.changes) c.slip.view_is in
    let asc : Ascends (0 ∷ changed s.changes) = subst (λ ds. Ascends (0 ∷ changed ds)) cs
    (c.are_in_order.ensures.0 c.if-not-are_in_order.false) in
    slip_decided c.args.next c.args.number s c.slip.inside.keep c.slip.inside.gone c.deref-2.result.now
    c.broken_inside.result (ap (λ (x : Slip). x.keep) c.slip.view_is) (ap (λ (x : Slip). x.gone) c.slip.view_is)
    (c.deref-2.ensures.value ∙ ap (λ (x : Slip). x.changes) c.slip.view_is)
    (c.has_numbers.ensures.0 c.if-not-has_numbers.false) asc.1 c.broken_inside.ensures
