use Rattle.std.proofs.Common.{◌≡◌, ◌<◌, ◌≤◌, ℕ}
use Rattle.room_requests.specs.Visits.{Answering}
use Rattle.visitors.specs.Places.{AreRight, at, unless_late}
use Rattle.visitors.proofs.visitors.Visitors.close_late.Given as goal

abbrev pub invariant-places : goal.invariant-places
invariant-places g l = record {
  gone : (place : ℕ) → place < l.place → at l.self place ≡ unless_late (at l.fn.self place) l.now;
  there : (place : ℕ) → l.place ≤ place → at l.self place ≡ at l.fn.self place;
  right : (answer : Answering) → AreRight answer l.fn.self → AreRight answer l.self;
}
