use Rattle.std.proofs.Common.{◌≡◌, ◌≤◌, map, take}
use Rattle.archive_state.specs.Looks.{OnView}
use Rattle.page_batches.specs.Looks.{place_of}
use Rattle.page_batches.proofs.looks.places_of.Given as goal

abbrev pub invariant-entries : goal.invariant-entries
invariant-entries g l = record {
  shown : OnView g.V.View.is_honest g.V.View.shows g.V.View.content l.fn.view l.view
      (λ c. l.found.items ≡ map (place_of c) (take l.entry-index l.entries));
  counted : g.V.View.failed l.fn.view ≤ g.V.View.failed l.view;
}
