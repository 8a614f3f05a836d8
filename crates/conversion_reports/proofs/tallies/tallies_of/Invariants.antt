use Rattle.std.proofs.Common.{◌+◌, ◌≤◌, [], length}
use Rattle.character_sets.specs.Lines.{lines}
use Rattle.conversion_reports.specs.declared.kinds.Kind.TheVariants.{Other, Joined, Stray, Replaced, Marked}
use Rattle.conversion_reports.specs.Lines.{Leads, lines_read, marks}
use Rattle.conversion_reports.proofs.tallies.tallies_of.Given as goal

abbrev pub invariant-lines : goal.invariant-lines
invariant-lines l = record {
  other : Leads l.tallies.other.count l.tallies.other.first.items
      (marks Other l.set (lines_read l.set l.number l.carry.items (lines l.rest)))
      (marks Other l.set (lines_read l.set l.first [] (lines l.fn.units)));
  joined : Leads l.tallies.joined.count l.tallies.joined.first.items
      (marks Joined l.set (lines_read l.set l.number l.carry.items (lines l.rest)))
      (marks Joined l.set (lines_read l.set l.first [] (lines l.fn.units)));
  stray : Leads l.tallies.stray.count l.tallies.stray.first.items
      (marks Stray l.set (lines_read l.set l.number l.carry.items (lines l.rest)))
      (marks Stray l.set (lines_read l.set l.first [] (lines l.fn.units)));
  replaced : Leads l.tallies.replaced.count l.tallies.replaced.first.items
      (marks Replaced l.set (lines_read l.set l.number l.carry.items (lines l.rest)))
      (marks Replaced l.set (lines_read l.set l.first [] (lines l.fn.units)));
  marked : Leads l.tallies.marked.count l.tallies.marked.first.items
      (marks Marked l.set (lines_read l.set l.number l.carry.items (lines l.rest)))
      (marks Marked l.set (lines_read l.set l.first [] (lines l.fn.units)));
  counted : l.number + length l.rest ≤ length l.fn.units + 1;
}

abbrev pub decreases-lines : goal.decreases-lines
decreases-lines l = length l.rest
