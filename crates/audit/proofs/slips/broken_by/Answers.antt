use Rattle.std.proofs.Common.{◌≡◌, true, false, sym, ap, subst, ◌∙◌}
use Rattle.std.specs.Prelude.{IfSome, None, MatchOption}
use Rattle.std.specs.FinMap.{get}
use Rattle.archive_state.specs.Slips.{Slip}
use Rattle.archive_state.specs.Sound.{IsPerson, IsSoundSlip}
use Rattle.audit.specs.Parts.{BreaksSlip}
use Rattle.audit.proofs.Whole.{not_there, there}
use Rattle.audit.proofs.slips.broken_by.Goals as goal

pub returns-then-has_record : goal.returns-then-has_record
returns-then-has_record c = λ at. (
  c.args.slip.now,
  at,
  there c.has_record.result c.has_record.ensures c.if-has_record.true,
)

pub returns-in-Some : goal.returns-in-Some
returns-in-Some c = λ at. (
  c.args.slip.now,
  at,
  subst (λ x. BreaksSlip x c.args.number c.args.slip.now c.in-Some.part) c.next.ensures
      (subst (λ o. MatchOption o (IsSoundSlip c.next.result c.args.number c.args.slip.now)
      (BreaksSlip c.next.result c.args.number c.args.slip.now)) c.in-Some.is c.in_ok-part.ensures),
)

pub returns-then-not-may_stay : goal.returns-then-not-may_stay
returns-then-not-may_stay c = λ at. (
  c.args.slip.now,
  at,
  λ stays.
      let there : IfSome (get c.args.state.now.records c.slip.inside.keep) IsPerson =
      subst (λ k. IfSome (get c.args.state.now.records k) IsPerson) (sym (ap (λ (s : Slip). s.keep) c.slip.view_is))
      stays in
      let both : true ≡ false = sym (c.may_stay.ensures.1 there) ∙ c.if-not-may_stay.true in absurd cc,
)

pub returns-then-has_slip : goal.returns-then-has_slip
returns-then-has_slip c = λ at. (
  c.args.slip.now,
  at,
  λ free.
      there c.has_slip.result c.has_slip.ensures c.if-has_slip.true
      (subst (λ g. get c.args.state.now.slips g ≡ None) (sym (ap (λ (s : Slip). s.gone) c.slip.view_is)) free),
)

pub returns : goal.returns
returns c = λ at. record {
  distinct = not_there c.has_record.result c.has_record.ensures c.if-has_record.false;
  sound = subst (λ x. IsSoundSlip x c.args.number c.args.slip.now) c.next.ensures
      (subst (λ o. MatchOption o (IsSoundSlip c.next.result c.args.number c.args.slip.now)
      (BreaksSlip c.next.result c.args.number c.args.slip.now)) c.in_default.is c.in_ok-part.ensures);
  stayed = subst (λ k. IfSome (get c.args.state.now.records k) IsPerson) (ap (λ (s : Slip). s.keep) c.slip.view_is)
      (c.may_stay.ensures.0 c.if-not-may_stay.false);
  free = subst (λ g. get c.args.state.now.slips g ≡ None) (ap (λ (s : Slip). s.gone) c.slip.view_is)
      (not_there c.has_slip.result c.has_slip.ensures c.if-has_slip.false);
}
