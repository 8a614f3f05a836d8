use Rattle.std.proofs.Common.{◌≡◌, ◌++◌, [], drop}
use Rattle.doubts.specs.Doubts as doubts
use Rattle.doubts.proofs.entries.push_mentions.Given as goal

-- what is found so far and what the mentions that are left give is all
abbrev pub invariant-each : goal.invariant-each
invariant-each l =
    l.found.items ++ doubts.twice_doubts l.number l.before.items (drop l.mention-index l.mentions)
    ≡ l.fn.found.items ++ doubts.twice_doubts l.number [] l.mentions
