use Rattle.std.proofs.Common.{ap, ◌∙◌}
use Rattle.std.specs.FinMap as map
use Rattle.std.specs.List.{flat_map}
use Rattle.doubts.specs.Doubts.{doubts_at}
use Rattle.doubts.specs.Facts.{Known}
use Rattle.doubts.proofs.review.found_in.Goals as goal

pub returns-clause-shows : goal.returns-clause-shows
returns-clause-shows g c = λ honest.
    let later = c.in_ok-found.ensures.shows honest in
    let first = c.in_ok-known.ensures.shows later.0 in (
      first.0,
      (λ held shown.
          let known = first.1 held shown in
          let found = later.1 held known.0 in (
            found.0,
            found.1 ∙ ap (λ (k : Known). flat_map (λ n. doubts_at k n (map.get (g.V.View.content held).records n))
                c.args.numbers.now) known.1,
          )),
    )
