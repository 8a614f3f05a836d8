use Rattle.room_door.proofs.room.OpenRoom.let_in.Goals as goal

pub places-preserved : goal.places-preserved
places-preserved g c answer all = c.let_one_in.ensures.right answer (c.places.invariant answer all)
