use Rattle.std.proofs.Common.{◌≡◌, ◌++◌, ◌≤◌, length, map, reverse}
use Rattle.archive_state.specs.Looks.{OnView}
use Rattle.import_definitions.specs.Numbers.{finished}
use Rattle.import_numbers.specs.Settling.{Knows}
use Rattle.import_numbers.specs.Views.{drawing_said, drawn_said, places_of}
use Rattle.imports.proofs.drawn_batch.finished_records.Given as goal

abbrev pub invariant-left : goal.invariant-left
invariant-left g l = record {
  way : OnView g.V.View.is_honest g.V.View.shows g.V.View.content l.fn.view l.view
      (λ c. Knows l.fn.looks.found c → Knows l.looks.found c
      × (l.records.items
      ++ map (finished (places_of c l.file) (drawing_said l.drawing)) (map drawn_said (reverse l.left.items))
      ≡ map (finished (places_of c l.file) (drawing_said l.drawing)) (map drawn_said l.fn.drawn.items)));
  counts : g.V.View.failed l.fn.view ≤ g.V.View.failed l.view;
}

abbrev pub decreases-left : goal.decreases-left
decreases-left g l = length l.left.items
