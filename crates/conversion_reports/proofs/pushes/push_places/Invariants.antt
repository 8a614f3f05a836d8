use Rattle.std.proofs.Common.{◌≡◌, ◌++◌, drop}
use Rattle.std.specs.List.{flat_map}
use Rattle.conversion_reports.specs.Report.{place_text}
use Rattle.conversion_reports.proofs.pushes.push_places.Given as goal

abbrev pub invariant-loop-line : goal.invariant-loop-line
invariant-loop-line l = l.out.items ++ flat_map place_text (drop l.line-index l.lines)
    ≡ l.fn.out.items ++ flat_map place_text l.lines
