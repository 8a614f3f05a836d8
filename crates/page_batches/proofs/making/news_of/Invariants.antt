use Rattle.std.proofs.Common.{◌≤◌, drop}
use Rattle.std.specs.BTreeSet.{contains_text}
use Rattle.archive_state.specs.Looks.{OnView}
use Rattle.page_batches.specs.Making.{IsOnTheWay}
use Rattle.page_batches.proofs.making.news_of.Given as goal

abbrev pub invariant-entries : goal.invariant-entries
invariant-entries g l = record {
  shown : OnView g.V.View.is_honest g.V.View.shows g.V.View.content l.fn.view l.view
      (λ c. IsOnTheWay c (contains_text l.made) l.found.items l.paths.items (drop l.entry-index l.entries) l.entries);
  counted : g.V.View.failed l.fn.view ≤ g.V.View.failed l.view;
}
