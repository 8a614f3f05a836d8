use Rattle.std.proofs.Common.{◌≡◌, length}
use Rattle.table_pages.specs.Blanks.{until_blanks}
use Rattle.table_pages.proofs.blanks.until_blanks.Given as goal

abbrev pub invariant-blanks : goal.invariant-blanks
invariant-blanks l = until_blanks l.rest ≡ until_blanks l.bytes

abbrev pub decreases-blanks : goal.decreases-blanks
decreases-blanks l = length l.rest
