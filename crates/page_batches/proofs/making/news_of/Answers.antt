use Rattle.std.proofs.Common.{arith}
use Rattle.page_batches.proofs.OnTheWay.{entries_from, went_on}
use Rattle.page_batches.proofs.making.news_of.Goals as goal

pub entries-preserved : goal.entries-preserved
entries-preserved g c = record {
  shown = λ honest.
      let noted = c.in_ok-place.ensures.shows honest in
      let way = c.entries.invariant.shown noted.0 in (
        way.0,
        λ held shows.
            let before = way.1 held shows in
            let now = noted.1 held before.0 in (
              now.0,
              went_on (g.V.View.content held) _ _ _ _ _ _ _ c.entry-item.result _ _ c.args.entries.now
                  (entries_from c.args.entries.now c.entries.entry-index c.entry-item.result c.entries-test.true
                  c.entry-item.is) now.1 c.in_ok-push.ensures before.1,
            ),
      );
  counted = omega (arith, c.in_ok-place.ensures.counts.0, c.entries.invariant.counted);
}
