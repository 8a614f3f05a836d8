use Rattle.request_csv.proofs.Placed.{as_it_stands}
use Rattle.request_csv.proofs.laws.a_row_without_a_reference_is_its_entry.Goals as goal

pub returns : goal.returns
returns c = as_it_stands
