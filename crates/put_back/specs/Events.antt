-- What is put back of an event: rules of our own.
use Rattle.std.specs.Prelude.{
  ℕ,
  ◌==◌,
  ◌&&◌,
  Bool,
  if◌then◌else◌,
  List,
  [],
  ◌∷◌,
  ◌++◌,
  bytes_eq,
  codes,
  decimal,
  Option,
  Some,
  None,
}
use Rattle.std.specs.List.{flat_map, list_any}
use Rattle.record_kinds.specs.Model as model
use Rattle.put_back.specs.Rows.{Cells, date_cell, number_cell, put}

abbrev pub place_of : Option model.EventPlace → Option ℕ
place_of None = None
place_of (Some p) = Some p.place

-- the tag, the value, the date and the place
abbrev pub own_back : ℕ → model.Event → model.Event → List Cells
own_back n old now = put n (codes "tag") old.tag now.tag ++ (put n (codes "value") old.value now.value
    ++ (put n (codes "date") (date_cell old.date) (date_cell now.date)
    ++ put n (codes "place") (number_cell (place_of old.place)) (number_cell (place_of now.place))))

-- participants that are missing
abbrev pub is_same : model.Participant → model.Participant → Bool
is_same p q = (p.person == q.person) && bytes_eq p.role q.role

abbrev pub participant_back : ℕ → List model.Participant → model.Participant → List Cells
participant_back n now p = if list_any (is_same p) now then []
    else (codes "participant" ∷ decimal n ∷ decimal p.person ∷ p.role ∷ []) ∷ []

abbrev pub event_back : ℕ → model.Event → model.Event → List Cells
event_back n old now = own_back n old now ++ flat_map (participant_back n now.participants) old.participants
