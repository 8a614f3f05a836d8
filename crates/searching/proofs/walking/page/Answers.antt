use Rattle.std.proofs.Common.{◌≡◌, ap, ◌∙◌}
use Rattle.std.specs.FinMap as map
use Rattle.searching.specs.Lines as lines
use Rattle.searching.specs.Walking.{walked}
use Rattle.searching.proofs.Chosen.{walked_chosen}
use Rattle.searching.proofs.Walked.{looked_more}
use Rattle.searching.proofs.walking.page.Goals as goal

pub returns-clause-shows : goal.returns-clause-shows
returns-clause-shows g c honest =
    let read = c.walked.ensures.shows honest in
    let numbers = c.in_ok-numbers.ensures.shows read.0 in (
      numbers.0,
      λ held shown.
          let told = numbers.1 held shown in
          let found = read.1 held told.0 in
          let m = (g.V.View.content held).records in (
            found.0,
            looked_more (λ found. found.items ≡ walked (map.get m) c.args.wanted.now c.args.after c.args.limit
                c.deref.result.now)
                (λ found. found.items ≡ lines.page c.args.wanted.now c.args.after c.args.limit (map.entries m))
                (λ found is. is
                ∙ ap (walked (map.get m) c.args.wanted.now c.args.after c.args.limit) (c.deref.ensures.value ∙ told.1)
                ∙ walked_chosen c.args.wanted.now (g.V.View.content held) c.args.after c.args.limit)
                c.walked.result found.1,
          ),
    )
