use Rattle.round_trip.proofs.Reports.{reports_nothing}
use Rattle.round_trip.proofs.laws.nothing_is_reported_of_an_export.Goals as goal

pub returns : goal.returns
returns c = reports_nothing (record {
  reads = c.a_sound_archive_is_readable.ensures;
  again = c.a_record_is_read_again.ensures;
  paths = c.the_path_of_a_place_is_found.ensures;
  families = c.the_families_of_a_person_are_found.ensures;
})
