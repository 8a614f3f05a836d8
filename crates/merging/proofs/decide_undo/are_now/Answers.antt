use Rattle.std.proofs.Common.{◌≤◌, sym, ◌∙◌, arith}
use Rattle.merging.proofs.Deciding.{one_changed, still_now}
use Rattle.merging.proofs.decide_undo.are_now.Goals as goal

pub returns-then-not-branch-clause-shows : goal.returns-then-not-branch-clause-shows
returns-then-not-branch-clause-shows g c honest =
    let now = c.in_ok-is_now_at.ensures.shows honest in
    let was = c.changes.invariant.shown now.0 in (
      was.0,
      λ held shown.
          let before = was.1 held shown in
          let here = now.1 held before.0 in (
            here.0,
            sym (one_changed (g.V.View.content held).records c.args.changes.now c.changes.change-index
                c.change-item.result c.changes-test.true c.change-item.is (sym here.1 ∙ c.if-not-branch.true)),
          ),
    )

pub changes-preserved : goal.changes-preserved
changes-preserved g c = record {
  shown = λ honest.
      let now = c.in_ok-is_now_at.ensures.shows honest in
      let was = c.changes.invariant.shown now.0 in (
        was.0,
        λ held shown.
            let before = was.1 held shown in
            let here = now.1 held before.0 in (
              here.0,
              still_now (g.V.View.content held).records c.args.changes.now c.changes.change-index c.change-item.result
                  c.changes-test.true c.change-item.is before.1 (sym here.1 ∙ c.if-not-branch.false),
            ),
      );
  counted =
      let was : g.V.View.failed c.args.view.now ≤ g.V.View.failed c.changes.view = c.changes.invariant.counted in
      let now : g.V.View.failed c.changes.view ≤ g.V.View.failed c.is_now_at.new.view = c.is_now_at.ensures.counts.0 in
      omega (arith, was, now);
}
