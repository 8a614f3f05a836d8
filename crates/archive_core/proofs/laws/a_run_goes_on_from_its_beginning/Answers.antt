use Rattle.archive_core.proofs.Serving.{goes_on}
use Rattle.archive_core.proofs.laws.a_run_goes_on_from_its_beginning.Goals as goal

pub returns : goal.returns
returns c = goes_on
