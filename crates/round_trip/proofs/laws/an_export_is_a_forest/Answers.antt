use Rattle.round_trip.proofs.Forested.{export_is_forest}
use Rattle.round_trip.proofs.laws.an_export_is_a_forest.Goals as goal

pub returns : goal.returns
returns c = export_is_forest
