use Rattle.std.proofs.Common.{◌≡◌, length}
use Rattle.table_pages.specs.Blanks.{past_blanks}
use Rattle.table_pages.proofs.blanks.past_blanks.Given as goal

abbrev pub invariant-blanks : goal.invariant-blanks
invariant-blanks l = past_blanks 194 160 l.rest ≡ past_blanks 194 160 l.bytes

abbrev pub decreases-blanks : goal.decreases-blanks
decreases-blanks l = length l.rest
