use Rattle.std.proofs.Common.{◌≤◌, map}
use Rattle.std.specs.Vec.Iter.{into_iter_items}
use Rattle.stored_lines.specs.Tree.{forest_of}
use Rattle.import_definitions.specs.Numbers.{draw_all}
use Rattle.import_numbers.specs.Views.{drawing_said, places_of}
use Rattle.node_reading.specs.Owners.{owned_tree}
use Rattle.imports.specs.Drafts.{AllSeekByPaths}
use Rattle.imports.proofs.Ways.{Way}
use Rattle.imports.proofs.below.draw_all_owned.Given as goal

abbrev pub invariant-owned : goal.invariant-owned
invariant-owned g l = record {
  seeks : AllSeekByPaths (forest_of (map owned_tree (into_iter_items l.one-iterator)));
  way : Way g.V.View.is_honest g.V.View.shows g.V.View.content l.fn.view l.view l.fn.looks.found l.looks.found
      (λ c. draw_all (places_of c l.file) l.below.position l.below.owner (drawing_said l.fn.drawing)
      (forest_of (map owned_tree l.fn.owned.items)))
      (λ c d. draw_all (places_of c l.file) l.below.position l.below.owner d
      (forest_of (map owned_tree (into_iter_items l.one-iterator)))) l.drawing;
  counts : g.V.View.failed l.fn.view ≤ g.V.View.failed l.view;
}
