use Rattle.std.proofs.Common.{◌≡◌, ◌++◌, take}
use Rattle.std.specs.List.{flat_map}
use Rattle.record_lists.specs.Texts.{line_row}
use Rattle.record_lists.proofs.rows.push_rows.Given as goal

abbrev pub invariant-each : goal.invariant-each
invariant-each l = l.out.items ≡ l.fn.out.items ++ flat_map line_row (take l.line-index l.lines)
