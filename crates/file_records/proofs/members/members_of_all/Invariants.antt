use Rattle.std.proofs.Common.{◌≡◌, ◌++◌, drop, map}
use Rattle.std.specs.List.{flat_map}
use Rattle.import_definitions.specs.Nodes.{trees_at}
use Rattle.file_records.specs.Members.{doubled_in, membership_of}
use Rattle.file_records.specs.SideViews.{member_at}
use Rattle.file_records.proofs.members.members_of_all.Given as goal

abbrev pub invariant-loop-node : goal.invariant-loop-node
invariant-loop-node l = record {
  members : map member_at l.all.items ++ map (membership_of l.roots) (trees_at (drop l.node-index l.node-items))
      ≡ map (membership_of l.roots) l.roots;
  report : l.report.items ++ flat_map (doubled_in l.roots) (trees_at (drop l.node-index l.node-items))
      ≡ l.fn.report.items ++ flat_map (doubled_in l.roots) l.roots;
}
