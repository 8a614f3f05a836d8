use Rattle.request_csv.proofs.OneBatch.{one_batch}
use Rattle.request_csv.proofs.laws.bytes_are_one_batch.Goals as goal

pub returns : goal.returns
returns c = one_batch
