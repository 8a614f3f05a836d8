use Rattle.std.proofs.Common.{ℕ, List, Option}
use Rattle.visitors.specs.Lives.{IsRight}
use Rattle.room_door.specs.Visiting.{IsVisit}
use Rattle.room_door.proofs.turns.go_on.Given as goal

abbrev pub invariant-calls : goal.invariant-calls
invariant-calls g l = record {
  visit : (input start : Option (List ℕ)) → g.A.Answering.is_honest l.room
      → IsVisit (g.A.Answering.answers l.room) input start (g.R.Read.remaining l.fn.reader)
      (g.W.Write.contents l.fn.writer) l.fn.visitor
      → IsVisit (g.A.Answering.answers l.room) input start (g.R.Read.remaining l.reader)
      (g.W.Write.contents l.writer) l.next;
  right : g.A.Answering.is_honest l.room → IsRight (g.A.Answering.answers l.room) l.fn.visitor
      → IsRight (g.A.Answering.answers l.room) l.next;
}
