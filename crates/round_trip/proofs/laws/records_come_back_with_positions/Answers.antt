use Rattle.round_trip.proofs.Drafts.{drafts_come_back}
use Rattle.round_trip.proofs.laws.records_come_back_with_positions.Goals as goal

pub returns : goal.returns
returns c = drafts_come_back (record {
  reads = c.a_sound_archive_is_readable.ensures;
  again = c.a_record_is_read_again.ensures;
  paths = c.the_path_of_a_place_is_found.ensures;
  families = c.the_families_of_a_person_are_found.ensures;
})
