use Rattle.std.proofs.Common.{inl, inr, refl}
use Rattle.archive_runs.proofs.hints.text_of.Goals as goal

pub returns-in-Damaged : goal.returns-in-Damaged
returns-in-Damaged c = inr (inr (inr (inr (inr (inr (inr (inr (inl refl))))))))
