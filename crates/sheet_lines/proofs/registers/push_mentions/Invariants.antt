use Rattle.std.proofs.Common.{◌≡◌, ◌++◌, take, string_bytes}
use Rattle.std.specs.List.{flat_map}
use Rattle.sheet_lines.specs.Lines as lines
use Rattle.sheet_lines.proofs.registers.push_mentions.Given as goal

abbrev pub invariant-mentions : goal.invariant-mentions
invariant-mentions l = string_bytes l.out
    ≡ string_bytes l.fn.out ++ flat_map lines.mention_line (take l.mention-index l.mentions)
