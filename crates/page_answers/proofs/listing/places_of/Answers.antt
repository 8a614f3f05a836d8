use Rattle.std.proofs.Common.{List, arith, get_or, refl, subst, take, ◌∙◌, ℕ}
use Rattle.std.proofs.lemmas.List.{take_all}
use Rattle.page_answers.specs.Likes.{IsIndex, paths_at}
use Rattle.page_answers.proofs.Listed.{numbers_more}
use Rattle.page_answers.proofs.listing.places_of.Goals as goal

pub numbers-preserved : goal.numbers-preserved
numbers-preserved g c = record {
  shown = λ honest.
      let added = c.in_ok-add_at.ensures.shows honest in
      let way = c.numbers.invariant.shown added.0 in (
        way.0,
        λ held shows.
            let before = way.1 held shows in
            let now = added.1 held before.0 in
            let m = (g.V.View.content held).records in
            let ns = c.deref-number-items.result.now in (
              now.0,
              (
                numbers_more c.add_at.new.index.paths m ns c.numbers.number-index
                    (get_or ns c.numbers.number-index 0) 0 c.numbers-test.true refl
                    (now.1 (paths_at m (take c.numbers.number-index ns)) before.1.0),
                before.1.1,
              ),
            ),
      );
  counted = omega (arith, c.in_ok-add_at.ensures.counts.0, c.numbers.invariant.counted);
}

pub returns-clause-shows : goal.returns-clause-shows
returns-clause-shows g c = λ honest.
    let way = c.numbers.invariant.shown honest in (
      way.0,
      λ held shows.
          let is = way.1 held shows in
          let ns = c.deref-number-items.result.now in (
            is.0,
            subst (λ (l : List ℕ). IsIndex c.numbers.index.paths (paths_at (g.V.View.content held).records l))
                (take_all c.numbers.number-index ns (omega (arith, c.numbers-test.false)) ∙ is.1.1) is.1.0,
          ),
    )
