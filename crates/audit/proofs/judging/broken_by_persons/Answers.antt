use Rattle.std.proofs.Common.{◌≡◌, true, false, sym, ◌∙◌}
use Rattle.audit.proofs.Inside.{joinable_all, joinable_each}
use Rattle.audit.proofs.judging.broken_by_persons.Goals as goal

pub returns-then-not-are_joinable : goal.returns-then-not-are_joinable
returns-then-not-are_joinable c = λ all h.
    let each = joinable_each c.args.olds.now.records c.args.keep c.args.gone c.args.numbers.now h in
    let both : true ≡ false = sym (c.are_joinable.ensures.1 each) ∙ c.if-not-are_joinable.true in absurd cc

pub returns : goal.returns
returns c = λ all. record {
  gone_person = c.has_person_at.ensures.0 c.if-not-has_person_at.false;
  keep_person = c.has_keep.ensures.0 c.if-not-has_keep.false;
  apart = λ e. let both : true ≡ false = sym (c.is_one.ensures.1 e) ∙ c.if-is_one.false in absurd cc;
  joinable = joinable_all c.args.olds.now.records c.args.keep c.args.gone c.args.numbers.now all
      (c.are_joinable.ensures.0 c.if-not-are_joinable.false);
}
