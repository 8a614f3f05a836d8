-- The persons of a surname: rules of our own.
use Rattle.std.specs.Prelude.{ℕ, ◌==◌, Bool, true, false, List, [], ◌∷◌, length, Option, Some}
use Rattle.std.specs.List.{filter, list_any}
use Rattle.record_kinds.specs.Model as model
use Rattle.record_kinds.specs.declared.record.Record.{Record}
use Rattle.record_kinds.specs.declared.record.Record.TheVariants as kind
use Rattle.record_text.specs.Naming.{key_of, surname_of}
use Rattle.sheets.specs.Called.{is_called}
use Rattle.sheets.specs.Gathered.{Gathered}

-- ---- no surname
abbrev pub has_no_surname : model.Name → Bool
has_no_surname x = length (surname_of x.text) == 0

-- one of these names has none; so it is without any name
abbrev pub lack_surname : List model.Name → Bool
lack_surname [] = true
lack_surname (x ∷ xs) = list_any has_no_surname (x ∷ xs)

abbrev pub is_without_surname : Option Record → Bool
is_without_surname (Some (kind.Person p)) = lack_surname p.names
is_without_surname _ = false

-- ---- a surname
-- the record is a person one of whose names has a surname with the key of that one, or who lacks one if that is empty
abbrev pub is_listed : List ℕ → Option Record → Bool
is_listed [] r = is_without_surname r
is_listed (b ∷ bs) r = is_called (key_of (b ∷ bs)) r

-- these persons, by number
abbrev pub called : Gathered → List ℕ → List ℕ
called g surname = filter (λ n. is_listed surname (g.at n)) g.persons
