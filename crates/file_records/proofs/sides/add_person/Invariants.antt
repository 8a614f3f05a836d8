use Rattle.std.proofs.Common.{◌≡◌, ◌++◌, drop, false}
use Rattle.import_definitions.specs.Nodes.{trees_of}
use Rattle.file_records.specs.Taken.{said_on, sides_on}
use Rattle.file_records.specs.SideViews.{member_in, taken_at}
use Rattle.file_records.proofs.sides.add_person.Given as goal

abbrev pub invariant-loop-line : goal.invariant-loop-line
invariant-loop-line l = record {
  count : l.at ≡ l.line-index;
  sides : l.sides.items ++ sides_on l.roots l.person (λ k. member_in l.members k l.person) (taken_at l.taken) l.at
      (trees_of (drop l.line-index l.lines))
      ≡ l.fn.sides.items ++ sides_on l.roots l.person (λ k. member_in l.members k l.person) (λ k. false) 0
      (trees_of l.lines);
  report : l.report.items ++ said_on l.roots (λ k. member_in l.members k l.person) (taken_at l.taken)
      (trees_of (drop l.line-index l.lines))
      ≡ l.fn.report.items ++ said_on l.roots (λ k. member_in l.members k l.person) (λ k. false) (trees_of l.lines);
}
