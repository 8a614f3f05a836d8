use Rattle.std.proofs.Common.{◌≡◌, ◌++◌, drop, string_bytes}
use Rattle.std.specs.List.{flat_map}
use Rattle.archive_input.specs.Telling.{line_text}
use Rattle.archive_input.proofs.import_telling.push_lines.Given as goal

-- what is written and what is left is all
abbrev pub invariant-loop-line : goal.invariant-loop-line
invariant-loop-line l = string_bytes l.text ++ flat_map line_text (drop l.line-index l.lines)
    ≡ string_bytes l.fn.text ++ flat_map line_text l.lines
