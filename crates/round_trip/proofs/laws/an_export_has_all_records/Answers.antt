use Rattle.round_trip.proofs.Households.{have_all}
use Rattle.round_trip.proofs.laws.an_export_has_all_records.Goals as goal

pub returns : goal.returns
returns c = have_all
