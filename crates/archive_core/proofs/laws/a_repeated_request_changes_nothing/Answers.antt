use Rattle.archive_core.proofs.Serving.{repeated}
use Rattle.archive_core.proofs.laws.a_repeated_request_changes_nothing.Goals as goal

pub returns : goal.returns
returns c = repeated
