use Rattle.room_requests.proofs.Few.{are_few}
use Rattle.reading_room.proofs.room.RoomPages.show.Goals as goal

pub pedigree-requires : goal.pedigree-requires
pedigree-requires c = rw c.in_ok-generations-in-Pedigree.ensures (are_few c.args.query.now)
