use Rattle.std.proofs.Common.{◌≡◌, ◌++◌, drop, map}
use Rattle.node_reading.specs.Trees.{draft_tree}
use Rattle.import_definitions.specs.Lines.{place_in, roots}
use Rattle.import_definitions.specs.Nodes.{trees_at}
use Rattle.import_definitions.specs.Views.{AreInFile}
use Rattle.file_records.specs.Drafts.{as_lines}
use Rattle.import_definitions.specs.Sides.{drafts_from}
use Rattle.file_records.proofs.DraftNodes.{said_of}
use Rattle.file_records.proofs.drafts.drafts_of.Given as goal

abbrev pub invariant-loop-node : goal.invariant-loop-node
invariant-loop-node l = record {
  count : l.position ≡ l.node-index;
  in_file : AreInFile (trees_at (drop l.node-index l.node-items));
  drafts : map draft_tree l.drafts.items ++ drafts_from (roots l.roots) l.node-index
      (as_lines (place_in l.roots) (trees_at (drop l.node-index l.node-items)))
      ≡ drafts_from (roots l.roots) 0 (roots l.roots);
  report : l.report.items ++ said_of l.roots (trees_at (drop l.node-index l.node-items))
      ≡ l.fn.report.items ++ said_of l.roots l.roots;
}
