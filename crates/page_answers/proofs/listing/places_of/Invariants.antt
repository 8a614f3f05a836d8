use Rattle.std.proofs.Common.{◌≡◌, ◌≤◌, take}
use Rattle.std.specs.FinMap.{keys}
use Rattle.archive_state.specs.Looks.{OnView}
use Rattle.page_answers.specs.Likes.{IsIndex, paths_at}
use Rattle.page_answers.proofs.listing.places_of.Given as goal

abbrev pub invariant-numbers : goal.invariant-numbers
invariant-numbers g l = record {
  shown : OnView g.V.View.is_honest g.V.View.shows g.V.View.content l.fn.view l.view
      (λ c. IsIndex l.index.paths (paths_at c.records (take l.number-index l.number-items))
      × (l.number-items ≡ keys c.records));
  counted : g.V.View.failed l.fn.view ≤ g.V.View.failed l.view;
}
