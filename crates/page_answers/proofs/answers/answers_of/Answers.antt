use Rattle.std.proofs.Common.{arith}
use Rattle.page_answers.proofs.Answered.{rows_from, went_on}
use Rattle.page_answers.proofs.answers.answers_of.Goals as goal

pub rows-preserved : goal.rows-preserved
rows-preserved g c = record {
  shown = λ honest.
      let answered = c.in_ok-answer.ensures.shows honest in
      let noted = c.in_ok-news.ensures.shows answered.0 in
      let way = c.rows.invariant.shown noted.0 in (
        way.0,
        λ held shows.
            let before = way.1 held shows in
            let new = noted.1 held before.0 in
            let now = answered.1 held new.0 in (
              now.0,
              went_on (g.V.View.content held) c.args.source c.args.makes c.args.sheet.now _ _ _ _ _ _
                  c.row-item.result _ _ c.rows-rows.result.now
                  (rows_from c.rows-rows.result.now c.rows.row-index c.row-item.result c.rows-test.true c.row-item.is)
                  new.1 now.1 c.in_ok-push.ensures before.1,
            ),
      );
  counted = omega (arith, c.in_ok-answer.ensures.counts.0, c.in_ok-news.ensures.counts.0, c.rows.invariant.counted);
}
