use Rattle.round_trip.proofs.Found.{nodes_found}
use Rattle.round_trip.proofs.laws.the_nodes_of_an_export_are_found.Goals as goal

pub returns : goal.returns
returns c = nodes_found
