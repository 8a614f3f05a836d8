use Rattle.std.proofs.Common.{length}
use Rattle.command_checks.proofs.entries.+check_mentions.Given as goal

abbrev pub decreases-check_mentions : goal.decreases-check_mentions
decreases-check_mentions l = length l.mentions.now
