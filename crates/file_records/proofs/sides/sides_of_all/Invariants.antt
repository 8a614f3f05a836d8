use Rattle.std.proofs.Common.{◌≡◌, ◌++◌, drop}
use Rattle.import_definitions.specs.Nodes.{trees_at}
use Rattle.file_records.specs.Taken.{said_from, sides_from}
use Rattle.file_records.specs.SideViews.{member_in}
use Rattle.file_records.proofs.sides.sides_of_all.Given as goal

abbrev pub invariant-loop-node : goal.invariant-loop-node
invariant-loop-node l = record {
  count : l.person ≡ l.node-index;
  sides : l.all.items ++ sides_from l.roots (member_in l.members) l.person (trees_at (drop l.node-index l.node-items))
      ≡ sides_from l.roots (member_in l.members) 0 l.roots;
  report : l.report.items ++ said_from l.roots (member_in l.members) l.person
      (trees_at (drop l.node-index l.node-items))
      ≡ l.fn.report.items ++ said_from l.roots (member_in l.members) 0 l.roots;
}
