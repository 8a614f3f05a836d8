use Rattle.std.proofs.Common.{◌≡◌, ◌+◌, ◌≤◌, ◌++◌, [], length}
use Rattle.character_sets.specs.Lines.{lines}
use Rattle.conversion_reports.specs.Lines.{lines_read}
use Rattle.conversion_reports.specs.Report.{read_lines}
use Rattle.conversion_reports.proofs.written.push_lines.Given as goal

abbrev pub invariant-lines : goal.invariant-lines
invariant-lines l = record {
  shown : l.out.items ++ read_lines l.set l.left (lines_read l.set l.number l.carry.items (lines l.rest))
      ≡ l.fn.out.items ++ read_lines l.set 5 (lines_read l.set l.first [] (lines l.told));
  counted : l.number + length l.rest ≤ length l.told + 1;
}

abbrev pub decreases-lines : goal.decreases-lines
decreases-lines l = length l.rest
