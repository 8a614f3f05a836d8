use Rattle.std.proofs.Common.{◌≡◌, ◌++◌, drop, string_bytes}
use Rattle.import_definitions.specs.Nodes.{trees_at}
use Rattle.import_reports.specs.Records.{records_from}
use Rattle.import_reports.proofs.numbered.records_text.Given as goal

abbrev pub invariant-loop-node : goal.invariant-loop-node
invariant-loop-node l = record {
  place : l.at ≡ l.node-index;
  so_far : string_bytes l.out ++ records_from l.numbers l.at (trees_at (drop l.node-index l.nodes))
      ≡ records_from l.numbers 0 (trees_at l.nodes);
}
