use Rattle.std.proofs.Common.{◌≡◌, ◌+◌, ◌≤◌, length, map, reverse}
use Rattle.record_shapes.specs.Lists.{EachOf}
use Rattle.import_numbers.specs.Views.{drawing_said, places_of}
use Rattle.node_reading.specs.Trees.{draft_tree}
use Rattle.imports.specs.Drafts.{SeeksByPaths, draw_each}
use Rattle.imports.proofs.Ways.{Way}
use Rattle.imports.proofs.roots.draw_drafts.Given as goal

abbrev pub invariant-left : goal.invariant-left
invariant-left g l = record {
  seeks : EachOf SeeksByPaths (map draft_tree (reverse l.left.items));
  count : l.position + length l.left.items ≡ length l.fn.drafts.items;
  way : Way g.V.View.is_honest g.V.View.shows g.V.View.content l.fn.view l.view l.fn.looks.found l.looks.found
      (λ c. draw_each (places_of c l.file) 0 (drawing_said l.fn.drawing) (map draft_tree l.fn.drafts.items))
      (λ c d. draw_each (places_of c l.file) l.position d (map draft_tree (reverse l.left.items))) l.drawing;
  counts : g.V.View.failed l.fn.view ≤ g.V.View.failed l.view;
}

abbrev pub decreases-left : goal.decreases-left
decreases-left g l = length l.left.items
