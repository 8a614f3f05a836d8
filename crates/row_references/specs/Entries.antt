-- References in rows of batches of register entries: `@` and a token in the field of the place. Rules of our own.
use Rattle.std.specs.Prelude.{ℕ, Bool, List, [], get_or, Option, None, Some, is_some}
use Rattle.row_references.specs.References.{numbered_at, token_in}

-- a row is kind, page, item, date, place, text and mentions
abbrev pub place_field : ℕ
place_field = 4

-- the token of the place; none: it is no reference
abbrev pub place_token : List (List ℕ) → Option (List ℕ)
place_token row = token_in (get_or row place_field [])

abbrev pub has_place_reference : List (List ℕ) → Bool
has_place_reference row = is_some (place_token row)

abbrev pub known_by : (List ℕ → Option ℕ) → Option (List ℕ) → Option ℕ
known_by known None = None
known_by known (Some token) = known token

-- the number of the token of the place
abbrev pub place_number : (List ℕ → Option ℕ) → List (List ℕ) → Option ℕ
place_number known row = known_by known (place_token row)

-- the row with the number of its token in place of the reference; none: the token has no number
abbrev pub placed : (List ℕ → Option ℕ) → List (List ℕ) → Option (List (List ℕ))
placed known row = numbered_at known (Some row) place_field
