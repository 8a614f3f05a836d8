use Rattle.round_trip.proofs.Whole.{file_comes_back}
use Rattle.round_trip.proofs.laws.an_exported_file_gives_the_same_records.Goals as goal

pub returns : goal.returns
returns c = file_comes_back c.an_export_is_a_forest.ensures c.a_text_is_read_again.ensures.again
    c.an_export_gives_the_same_records.ensures
