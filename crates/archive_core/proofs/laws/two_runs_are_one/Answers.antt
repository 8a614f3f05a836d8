use Rattle.archive_core.proofs.Serving.{joined}
use Rattle.archive_core.proofs.laws.two_runs_are_one.Goals as goal

pub returns : goal.returns
returns c = joined
