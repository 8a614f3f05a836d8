use Rattle.archive_core.proofs.Serving.{kept_for_good}
use Rattle.archive_core.proofs.laws.a_receipt_is_kept_for_good.Goals as goal

pub returns : goal.returns
returns c = kept_for_good
