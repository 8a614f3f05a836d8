use Rattle.round_trip.proofs.Renamed.{renamed}
use Rattle.round_trip.proofs.laws.the_lines_of_renamed_records_are_renamed.Goals as goal

pub returns : goal.returns
returns c = renamed
