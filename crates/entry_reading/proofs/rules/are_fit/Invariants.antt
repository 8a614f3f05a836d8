use Rattle.std.proofs.Common.{◌≡◌, length}
use Rattle.std.specs.List.{list_all}
use Rattle.entry_reading.specs.Guess.{fits}
use Rattle.entry_reading.proofs.rules.are_fit.Given as goal

abbrev pub invariant-mentions : goal.invariant-mentions
invariant-mentions g l = list_all (fits (g.K.Known.known l.known) l.kind) l.rest
    ≡ list_all (fits (g.K.Known.known l.known) l.kind) l.mentions

abbrev pub decreases-mentions : goal.decreases-mentions
decreases-mentions g l = length l.rest
