use Rattle.reading_room.proofs.Alike.{by_records}
use Rattle.reading_room.proofs.laws.the_records_decide.Goals as goal

pub returns : goal.returns
returns c = by_records c.what_is_shown_decides.ensures
