use Rattle.room_requests.specs.Visits.{Answering}
use Rattle.visitors.specs.Places.{AreRight}
use Rattle.room_door.proofs.room.OpenRoom.let_in.Given as goal

abbrev pub invariant-places : goal.invariant-places
invariant-places g l = (answer : Answering) → AreRight answer l.fn.self.visitors → AreRight answer l.self.visitors
