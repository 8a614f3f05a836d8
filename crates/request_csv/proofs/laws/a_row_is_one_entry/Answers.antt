use Rattle.request_csv.proofs.OnTheWay.{one_entry}
use Rattle.request_csv.proofs.laws.a_row_is_one_entry.Goals as goal

pub returns : goal.returns
returns c = one_entry
