use Rattle.std.proofs.Common.{◌≡◌, ◌++◌, length}
use Rattle.std.specs.Prelude.{map, codes}
use Rattle.std.specs.List.{filter}
use Rattle.record_shapes.specs.Forms.{tagged}
use Rattle.record_shapes.specs.Entries.{mention_on}
use Rattle.entry_reading.proofs.guessing.mentions_of.Given as goal

abbrev pub invariant-lines : goal.invariant-lines
invariant-lines l = l.mentions.items ++ map mention_on (filter (tagged (codes "_MENT")) l.rest)
    ≡ map mention_on (filter (tagged (codes "_MENT")) l.lines)

abbrev pub decreases-lines : goal.decreases-lines
decreases-lines l = length l.rest
