use Rattle.archive_core.proofs.Serving.{repeated_alike}
use Rattle.archive_core.proofs.laws.a_request_of_the_same_digest_is_answered_again.Goals as goal

pub returns : goal.returns
returns c = repeated_alike
