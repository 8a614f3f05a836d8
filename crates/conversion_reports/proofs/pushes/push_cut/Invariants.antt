use Rattle.std.proofs.Common.{◌≡◌, ◌++◌, drop}
use Rattle.conversion_reports.specs.Report.{max_shown, shown, shown_from}
use Rattle.conversion_reports.proofs.pushes.push_cut.Given as goal

abbrev pub invariant-loop-byte : goal.invariant-loop-byte
invariant-loop-byte l = l.out.items ++ shown_from l.before l.left (drop l.byte-index l.text)
    ≡ l.fn.out.items ++ shown max_shown l.text
