use Rattle.std.proofs.Common.{◌≡◌, ◌++◌, take, string_bytes}
use Rattle.std.specs.List.{flat_map}
use Rattle.page_checks.specs.Lines.{line}
use Rattle.page_checks.proofs.lines.push_findings.Given as goal

abbrev pub invariant-each : goal.invariant-each
invariant-each l = string_bytes l.out
    ≡ string_bytes l.fn.out ++ flat_map (line l.row) (take l.finding-index l.findings)
