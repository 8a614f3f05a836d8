use Rattle.std.proofs.Common.{◌≤◌, drop}
use Rattle.std.specs.BTreeSet.{contains_text}
use Rattle.archive_state.specs.Looks.{OnView}
use Rattle.page_answers.specs.Answers.{IsOnTheWay}
use Rattle.page_answers.proofs.answers.answers_of.Given as goal

abbrev pub invariant-rows : goal.invariant-rows
invariant-rows g l = record {
  shown : OnView g.V.View.is_honest g.V.View.shows g.V.View.content l.fn.view l.view
      (λ c. IsOnTheWay c l.source l.makes l.sheet (contains_text l.made) l.answers.items (drop l.row-index l.rows)
      l.rows);
  counted : g.V.View.failed l.fn.view ≤ g.V.View.failed l.view;
}
