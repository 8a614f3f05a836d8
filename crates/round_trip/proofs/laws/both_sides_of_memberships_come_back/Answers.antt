use Rattle.round_trip.proofs.Sides.{sides_back}
use Rattle.round_trip.proofs.laws.both_sides_of_memberships_come_back.Goals as goal

pub returns : goal.returns
returns c = sides_back c.a_sound_archive_is_readable.ensures c.the_families_of_a_person_are_found.ensures
