use Rattle.std.proofs.Common.{length}
use Rattle.commands.proofs.entry_reading.+with_mentions.Given as goal

abbrev pub decreases-with_mentions : goal.decreases-with_mentions
decreases-with_mentions l = length l.fields.now
