use Rattle.std.proofs.Common.{◌≡◌, ◌+◌, ◌≤◌, length}
use Rattle.character_sets.specs.Counts.{strays}
use Rattle.character_sets.proofs.counts.stray_bytes.Given as goal

abbrev pub invariant-characters : goal.invariant-characters
invariant-characters l = record {
  counted : l.count + strays 0 l.rest ≡ strays 0 l.fn.units;
  few : l.count + length l.rest ≤ length l.fn.units;
}

abbrev pub decreases-characters : goal.decreases-characters
decreases-characters l = length l.rest
