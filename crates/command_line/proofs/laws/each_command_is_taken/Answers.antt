use Rattle.std.proofs.Common.{[], ◌∷◌, codes, refl}
use Rattle.clap.specs.Words.{Text}
use Rattle.clap.proofs.OnLiterals.{clap_on_literals}
use Rattle.command_line.specs.Asking.{IsTaken}
use Rattle.command_line.proofs.laws.each_command_is_taken.Goals as goal

norm_taken : (name : Text) → IsTaken (name ∷ codes "norm" ∷ [])
unfolding clap_on_literals
norm_taken name = (refl, refl)

check_taken : (name : Text) → IsTaken (name ∷ codes "check" ∷ [])
unfolding clap_on_literals
check_taken name = (refl, refl)

pub returns-clause-norm : goal.returns-clause-norm
returns-clause-norm c = norm_taken

pub returns-clause-check : goal.returns-clause-check
returns-clause-check c = check_taken
