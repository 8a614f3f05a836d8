use Rattle.std.proofs.Common.{◌≡◌, ◌++◌, take}
use Rattle.std.specs.List.{flat_map}
use Rattle.doubts.specs.Doubts as doubts
use Rattle.doubts.specs.Gathered.{seen}
use Rattle.doubts.proofs.entries.push_missed.Given as goal

abbrev pub invariant-each : goal.invariant-each
invariant-each l = l.found.items
    ≡ l.fn.found.items
    ++ flat_map (doubts.mention_doubts (seen l.known) l.number l.entry) (take l.mention-index l.mention-items)
