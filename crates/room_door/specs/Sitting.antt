-- Who is at which place after a turn, and after somebody sat down.
use Rattle.std.specs.Prelude.{ℕ, ◌≡◌, ◌⊎◌, Some}
use Rattle.visitors.specs.Places.{KeepsOthers, Sits, at, next_of}
use Rattle.visitors.specs.declared.visitors.Seat.{Seat}
use Rattle.visitors.specs.declared.visitors.Visitors.{Visitors}

module _ {S : Type 0} where
  -- one sits at the next place, or could not, and nobody moved
  abbrev pub MaySit : Visitors S → Visitors S → Seat S → Type 0
  MaySit old new seat = Sits old new (next_of old) seat ⊎ ((place : ℕ) → at new place ≡ at old place)

  -- one of the same line sits at the next place, or could not
  abbrev pub ComesBack : Visitors S → Visitors S → Seat S → Type 0
  ComesBack old new was = (one : Seat S) × (one.line ≡ was.line) × MaySit old new one

  -- a turn of who is at the place: whoever is there after it has the line of who was there; nobody else moved
  pub record IsTurn (old new : Visitors S) (place : ℕ) : Type 0 where
    pub others : KeepsOthers old new place
    pub line : (now : Seat S) → at new place ≡ Some now
        → (was : Seat S) × (at old place ≡ Some was) × (now.line ≡ was.line)
