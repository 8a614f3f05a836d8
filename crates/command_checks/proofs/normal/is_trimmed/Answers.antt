use Rattle.command_checks.proofs.Trimmed.{none_in_front}
use Rattle.command_checks.proofs.normal.is_trimmed.Goals as goal
use Rattle.list_laws.proofs.Booleans.{never}

pub returns-in-Some : goal.returns-in-Some
returns-in-Some c = (λ t. absurd (never t), λ same. absurd (none_in_front c.args.part.now _ same c.in-Some.ensures))
