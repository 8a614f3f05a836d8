use Rattle.std.proofs.Common.{◌≡◌, ◌++◌, take}
use Rattle.std.specs.List.{flat_map}
use Rattle.doubts.specs.Facts as facts
use Rattle.doubts.proofs.fact.push_mentions.Given as goal

abbrev pub invariant-each : goal.invariant-each
invariant-each l = l.found.items
    ≡ l.fn.found.items ++ flat_map (facts.mention_facts l.entry) (take l.mention-index l.mention-items)
