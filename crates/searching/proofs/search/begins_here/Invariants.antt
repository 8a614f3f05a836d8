use Rattle.std.proofs.Common.{◌≡◌, length}
use Rattle.searching.specs.Scans.{begins_text}
use Rattle.searching.proofs.search.begins_here.Given as goal

abbrev pub invariant-each : goal.invariant-each
invariant-each l = begins_text l.left l.rest ≡ begins_text l.word l.text

abbrev pub decreases-each : goal.decreases-each
decreases-each l = length l.rest
