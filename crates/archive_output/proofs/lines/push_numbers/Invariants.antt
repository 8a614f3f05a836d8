use Rattle.std.proofs.Common.{◌≡◌, ◌++◌, take, string_bytes}
use Rattle.std.specs.List.{flat_map}
use Rattle.archive_output.specs.Lines as lines
use Rattle.archive_output.proofs.lines.push_numbers.Given as goal

abbrev pub invariant-numbers : goal.invariant-numbers
invariant-numbers l = string_bytes l.out
    ≡ string_bytes l.fn.out ++ flat_map lines.number_line (take l.number-index l.found)
