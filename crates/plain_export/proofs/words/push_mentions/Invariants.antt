use Rattle.std.proofs.Common.{◌≡◌, ◌++◌, take, string_bytes}
use Rattle.std.specs.List.{flat_map}
use Rattle.plain_export.specs.Words as words
use Rattle.plain_export.proofs.words.push_mentions.Given as goal

abbrev pub invariant-mentions : goal.invariant-mentions
invariant-mentions l = string_bytes l.out
    ≡ string_bytes l.fn.out ++ flat_map words.mention_line (take l.mention-index l.mentions)
