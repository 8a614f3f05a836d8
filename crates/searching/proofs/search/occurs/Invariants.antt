use Rattle.std.proofs.Common.{◌≡◌, true, length}
use Rattle.searching.specs.Scans.{may_begin, occurs_in}
use Rattle.searching.proofs.search.occurs.Given as goal

abbrev pub invariant-each : goal.invariant-each
invariant-each l = occurs_in l.word (may_begin l.before) l.rest ≡ occurs_in l.word true l.text

abbrev pub decreases-each : goal.decreases-each
decreases-each l = length l.rest
