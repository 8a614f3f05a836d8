use Rattle.room_requests.specs.Queries.{generations_of}
use Rattle.reading_room.proofs.Missing.{no_pedigree}
use Rattle.reading_room.proofs.laws.a_missing_person_is_told_first.Goals as goal

pub returns : goal.returns
returns c m n query h = no_pedigree m n (generations_of query) h
