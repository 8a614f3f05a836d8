use Rattle.round_trip.proofs.Making.{import_has_all}
use Rattle.round_trip.proofs.laws.an_import_of_an_export_has_all_records.Goals as goal

pub returns : goal.returns
returns c = import_has_all c.records_come_back_with_positions.ensures
