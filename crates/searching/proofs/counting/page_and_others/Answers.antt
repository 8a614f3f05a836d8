use Rattle.std.proofs.Common.{◌≡◌, ap, ◌∙◌}
use Rattle.std.specs.FinMap as map
use Rattle.searching.specs.Lines as lines
use Rattle.searching.specs.Walking.{counted}
use Rattle.searching.proofs.Chosen.{counted_chosen}
use Rattle.searching.proofs.Walked.{looked_more}
use Rattle.searching.proofs.counting.page_and_others.Goals as goal

pub returns-clause-shows : goal.returns-clause-shows
returns-clause-shows g c honest =
    let read = c.counted.ensures.shows honest in
    let numbers = c.in_ok-numbers.ensures.shows read.0 in (
      numbers.0,
      λ held shown.
          let told = numbers.1 held shown in
          let found = read.1 held told.0 in
          let m = (g.V.View.content held).records in (
            found.0,
            looked_more (λ found. found ≡ counted (map.get m) c.args.wanted.now c.args.after c.args.limit
                c.deref.result.now)
                (λ found. found ≡ lines.page_and_others c.args.wanted.now c.args.after c.args.limit (map.entries m))
                (λ found is. is
                ∙ ap (counted (map.get m) c.args.wanted.now c.args.after c.args.limit) (c.deref.ensures.value ∙ told.1)
                ∙ counted_chosen c.args.wanted.now (g.V.View.content held) c.args.after c.args.limit)
                c.counted.result found.1,
          ),
    )
