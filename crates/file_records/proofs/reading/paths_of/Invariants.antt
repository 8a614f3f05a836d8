use Rattle.std.proofs.Common.{◌≡◌, drop, map}
use Rattle.import_definitions.specs.Nodes.{trees_at}
use Rattle.import_definitions.specs.Lines.{place_in, roots}
use Rattle.import_definitions.specs.Views.{AreInFile}
use Rattle.import_definitions.specs.Positions.{paths, paths_behind}
use Rattle.file_records.specs.KnownViews.{path_said}
use Rattle.file_records.specs.PathViews.{as_lines}
use Rattle.file_records.proofs.reading.paths_of.Given as goal

abbrev pub invariant-loop-node : goal.invariant-loop-node
invariant-loop-node l = record {
  in_file : AreInFile (trees_at (drop l.node-index l.node-items));
  paths : paths_behind (roots l.roots) (map path_said l.found.items)
      (as_lines (place_in l.roots) (trees_at (drop l.node-index l.node-items))) ≡ paths (roots l.roots);
}
