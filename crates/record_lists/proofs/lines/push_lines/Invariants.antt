use Rattle.std.proofs.Common.{◌≡◌, ◌++◌, take, string_bytes}
use Rattle.std.specs.List.{flat_map}
use Rattle.record_lists.specs.Texts.{ended}
use Rattle.record_lists.proofs.lines.push_lines.Given as goal

abbrev pub invariant-each : goal.invariant-each
invariant-each l = string_bytes l.out ≡ string_bytes l.fn.out ++ flat_map ended (take l.line-index l.lines)
