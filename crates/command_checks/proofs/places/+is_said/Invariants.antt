use Rattle.command_checks.proofs.places.+is_said.Given as goal

abbrev pub decreases-is_said : goal.decreases-is_said
decreases-is_said g l = l.number
