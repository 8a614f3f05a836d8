use Rattle.std.proofs.Common.{◌≡◌, ◌++◌, take, string_bytes}
use Rattle.std.specs.List.{flat_map}
use Rattle.sheet_lines.specs.Lines as lines
use Rattle.sheet_lines.proofs.persons.push_names.Given as goal

abbrev pub invariant-names : goal.invariant-names
invariant-names l = string_bytes l.out ≡ string_bytes l.fn.out ++ flat_map lines.name_line (take l.name-index l.names)
