-- Who is at which place.
use Rattle.std.specs.Prelude.{ℕ, ◌≡◌, Bool, false, if◌then◌else◌, Option, None, Some}
use Rattle.slab.specs.Slab.{get, slab_len, Updates}
use Rattle.room_requests.specs.Visits.{Answering}
use Rattle.visitors.specs.Lives.{IsRight, is_late}
use Rattle.visitors.specs.declared.visitors.Seat.{Seat}
use Rattle.visitors.specs.declared.visitors.Visitors.{Visitors}

module _ {S : Type 0} where
  -- who is at a place
  abbrev pub at : Visitors S → ℕ → Option (Seat S)
  at v place = get v.seats place

  -- how many are there
  abbrev pub count_of : Visitors S → ℕ
  count_of v = slab_len v.seats

  -- somebody's time is over
  abbrev pub is_late_seat : Option (Seat S) → ℕ → Bool
  is_late_seat None now = false
  is_late_seat (Some seat) now = is_late seat.visitor now

  abbrev pub is_late_there : Visitors S → ℕ → ℕ → Bool
  is_late_there v place now = is_late_seat (at v place) now

  -- whose time is over is gone
  abbrev pub unless_late : Option (Seat S) → ℕ → Option (Seat S)
  unless_late there now = if is_late_seat there now then None else there

  -- the place of the next who comes
  abbrev pub next_of : Visitors S → ℕ
  next_of v = v.seats.vacant_key

  -- somebody came to a place, and the others stay
  abbrev pub Sits : Visitors S → Visitors S → ℕ → Seat S → Type 0
  Sits old new place seat = Updates old.seats new.seats place (Some seat)

  -- nobody is at a place, and the others stay
  abbrev pub Left : Visitors S → Visitors S → ℕ → Type 0
  Left old new place = Updates old.seats new.seats place None

  -- each stays who is at no such place
  abbrev pub KeepsOthers : Visitors S → Visitors S → ℕ → Type 0
  KeepsOthers old new place = (other : ℕ) → ¬ (other ≡ place) → at new other ≡ at old other

  -- each who is there is answered rightly
  abbrev pub AreRight : Answering → Visitors S → Type 0
  AreRight answer v = (place : ℕ) (seat : Seat S) → at v place ≡ Some seat → IsRight answer seat.visitor
