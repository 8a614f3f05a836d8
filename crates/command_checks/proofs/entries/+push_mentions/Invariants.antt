use Rattle.std.proofs.Common.{length}
use Rattle.command_checks.proofs.entries.+push_mentions.Given as goal

abbrev pub decreases-push_mentions : goal.decreases-push_mentions
decreases-push_mentions l = length l.given.now
