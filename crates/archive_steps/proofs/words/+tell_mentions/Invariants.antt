use Rattle.std.proofs.Common.{length}
use Rattle.archive_steps.proofs.words.+tell_mentions.Given as goal

abbrev pub decreases-tell_mentions : goal.decreases-tell_mentions
decreases-tell_mentions l = length l.mentions.now
