use Rattle.std.proofs.Common.{◌≡◌, length}
use Rattle.character_sets.specs.Utf8.{has_no_stray}
use Rattle.character_sets.proofs.utf8.is_utf8.Given as goal

abbrev pub invariant-characters : goal.invariant-characters
invariant-characters l = has_no_stray 0 l.rest ≡ has_no_stray 0 l.fn.units

abbrev pub decreases-characters : goal.decreases-characters
decreases-characters l = length l.rest
