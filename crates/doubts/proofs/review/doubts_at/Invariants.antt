use Rattle.std.proofs.Common.{◌≡◌, ◌≤◌, take}
use Rattle.std.specs.FinMap as map
use Rattle.std.specs.List.{flat_map}
use Rattle.archive_state.specs.Looks.{OnView}
use Rattle.doubts.specs.Doubts as doubts
use Rattle.doubts.specs.Gathered.{seen}
use Rattle.doubts.proofs.review.doubts_at.Given as goal

abbrev pub invariant-each : goal.invariant-each
invariant-each g l = record {
  shown : OnView g.V.View.is_honest g.V.View.shows g.V.View.content l.fn.view l.view
      (λ c. l.found.items
      ≡ flat_map (λ n. doubts.doubts_at (seen l.known) n (map.get c.records n)) (take l.number-index l.numbers));
  counted : g.V.View.failed l.fn.view ≤ g.V.View.failed l.view;
}
