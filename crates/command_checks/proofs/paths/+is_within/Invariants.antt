use Rattle.command_checks.proofs.paths.+is_within.Given as goal

abbrev pub decreases-is_within : goal.decreases-is_within
decreases-is_within g l = l.number
