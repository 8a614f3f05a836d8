-- Rooms that show the same records answer alike.
use Rattle.std.proofs.Common.{◌≡◌, ◌⊎◌, ℕ, List, ap}
use Rattle.archive_state.specs.Content.{Records}
use Rattle.room_requests.specs.Visits.{Answers, IsEither, Room}
use Rattle.reading_room.specs.Room.{room}

-- that rooms which show the same answer alike
abbrev pub ShownDecides : Type 0
ShownDecides = (r other : Room) (input one two : List ℕ) → r ≡ other → Answers r input one → Answers other input two
    → (one ≡ two) ⊎ (IsEither one × IsEither two)

pub by_records : ShownDecides → (m n : Records) (input one two : List ℕ) → m ≡ n → Answers (room m) input one
    → Answers (room n) input two → (one ≡ two) ⊎ (IsEither one × IsEither two)
by_records law m n input one two same = law (room m) (room n) input one two (ap room same)
