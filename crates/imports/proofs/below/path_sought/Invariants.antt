use Rattle.std.proofs.Common.{◌≡◌, drop, map}
use Rattle.stored_lines.specs.Tree.{forest_of}
use Rattle.node_reading.specs.Drafts.{part_draft, path_in}
use Rattle.imports.specs.Drafts.{AllSeekByPaths}
use Rattle.imports.proofs.below.path_sought.Given as goal

abbrev pub invariant-loop-part : goal.invariant-loop-part
invariant-loop-part l = record {
  seeks : AllSeekByPaths (forest_of (map part_draft (drop l.part-index l.parts)));
  path : path_in (drop l.part-index l.parts) ≡ path_in l.parts;
}
