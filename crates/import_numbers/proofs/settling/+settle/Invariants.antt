use Rattle.std.proofs.Common.{length}
use Rattle.import_numbers.proofs.settling.+settle.Given as goal

abbrev pub decreases-settle : goal.decreases-settle
decreases-settle g l = length l.text.now
