use Rattle.std.proofs.Common.{◌≡◌}
use Rattle.visitors.specs.Places.{AreRight}
use Rattle.room_door.proofs.room.OpenRoom.go_round.Given as goal

abbrev pub invariant-turns : goal.invariant-turns
invariant-turns g l = record {
  same : l.self.room ≡ l.fn.self.room;
  right : g.A.Answering.is_honest l.fn.self.room.now
      → AreRight (g.A.Answering.answers l.fn.self.room.now) l.fn.self.visitors
      → AreRight (g.A.Answering.answers l.fn.self.room.now) l.self.visitors;
}
