use Rattle.std.proofs.Common.{◌≡◌, ◌-◌, suc, arith}
use Rattle.archive_state.specs.Content.{Content}
use Rattle.place_names.proofs.Counted.{any_reads_is}
use Rattle.place_names.proofs.reading.+reads.Goals as goal

pub any_reads-returns-clause-shows : goal.any_reads-returns-clause-shows
any_reads-returns-clause-shows g t c honest =
    let walked = c.one_reads.ensures.shows honest in
    let named = c.in_ok-numbers.ensures.shows walked.0 in
    let less : suc (c.args.steps - 1) ≡ c.args.steps = omega (arith, c.if-steps-eq0.false) in (
      named.0,
      λ held shown.
          let before : Content = g.V.View.content held in
          let two = named.1 held shown in
          let three = walked.1 held two.0 in (
            three.0,
            any_reads_is before c.args.number c.args.path.now c.args.steps (c.args.steps - 1) less c.one_reads.result
                c.in_ok-numbers.numbers.items c.deref.result.now two.1 c.deref.ensures.value three.1,
          ),
    )
