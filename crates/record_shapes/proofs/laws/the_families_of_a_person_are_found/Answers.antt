use Rattle.record_shapes.proofs.Persons.{sides_picked}
use Rattle.record_shapes.proofs.laws.the_families_of_a_person_are_found.Goals as goal

pub returns : goal.returns
returns c = sides_picked
