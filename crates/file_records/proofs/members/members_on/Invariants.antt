use Rattle.std.proofs.Common.{◌≡◌, ℕ, ◌++◌, drop, false}
use Rattle.std.specs.Prelude.{is_some}
use Rattle.import_definitions.specs.Nodes.{trees_of}
use Rattle.import_definitions.specs.Numbers.{or_else}
use Rattle.file_records.specs.Members.{doubled, first_as, members_told}
use Rattle.file_records.specs.SideViews.{member_at}
use Rattle.file_records.proofs.members.members_on.Given as goal

abbrev pub invariant-loop-line : goal.invariant-loop-line
invariant-loop-line l = record {
  members : (n : ℕ) → or_else (member_at l.found n)
      (first_as n (members_told l.roots (trees_of (drop l.line-index l.lines))))
      ≡ first_as n (members_told l.roots (trees_of l.lines));
  report : l.report.items ++ doubled l.roots (λ n. is_some (member_at l.found n)) (trees_of (drop l.line-index l.lines))
      ≡ l.fn.report.items ++ doubled l.roots (λ n. false) (trees_of l.lines);
}
