-- Rows of `apply`, without their tokens: rules of our own.
use Rattle.std.specs.Prelude.{ℕ, if◌then◌else◌, List, [], ◌∷◌, bytes_eq, codes, decimal, Option, Some, None}
use Rattle.record_fields.specs.declared.date.Date.{Date}

abbrev pub Cells : Type 0
Cells = List (List ℕ)

-- a field of a record gets a value
abbrev pub correct : ℕ → List ℕ → List ℕ → Cells
correct n word value = codes "correct" ∷ decimal n ∷ word ∷ value ∷ []

-- a field gets the value that it had, where that differs
abbrev pub put : ℕ → List ℕ → List ℕ → List ℕ → List Cells
put n word old now = if bytes_eq old now then [] else correct n word old ∷ []

-- values as cells; what is missing is an empty one
abbrev pub text_cell : Option (List ℕ) → List ℕ
text_cell None = []
text_cell (Some text) = text

abbrev pub number_cell : Option ℕ → List ℕ
number_cell None = []
number_cell (Some n) = decimal n

abbrev pub date_cell : Option Date → List ℕ
date_cell None = []
date_cell (Some d) = d.text
