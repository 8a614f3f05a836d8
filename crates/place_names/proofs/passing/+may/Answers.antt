use Rattle.std.proofs.Common.{◌≡◌, ◌-◌, suc, arith}
use Rattle.archive_state.specs.Content.{Content}
use Rattle.place_names.proofs.Counted.{all_may_is}
use Rattle.place_names.proofs.passing.+may.Goals as goal

pub all_may-returns-clause-shows : goal.all_may-returns-clause-shows
all_may-returns-clause-shows g t c honest =
    let walked = c.may_within.ensures.shows honest in
    let named = c.in_ok-numbers.ensures.shows walked.0 in
    let may = c.in_ok-may_have.ensures.shows named.0 in
    let less : suc (c.args.steps - 1) ≡ c.args.steps = omega (arith, c.if-steps-eq0.false) in (
      may.0,
      λ held shown.
          let before : Content = g.V.View.content held in
          let one = may.1 held shown in
          let two = named.1 held one.0 in
          let three = walked.1 held two.0 in (
            three.0,
            all_may_is before c.args.number c.args.path.now c.args.steps (c.args.steps - 1) less c.may_within.result
                c.in_ok-may_have.field-0 c.in_ok-numbers.numbers.items c.deref.result.now one.1 c.if-not-branch.false
                two.1 c.deref.ensures.value three.1,
          ),
    )
