use Rattle.round_trip.proofs.Whole.{comes_back}
use Rattle.round_trip.proofs.laws.an_export_gives_the_same_records.Goals as goal

pub returns : goal.returns
returns c = comes_back c.an_import_of_an_export_has_all_records.ensures c.nothing_is_reported_of_an_export.ensures
    c.an_export_keeps_orders.ensures
