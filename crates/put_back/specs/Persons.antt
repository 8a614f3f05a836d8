-- What is put back of a person: rules of our own.
use Rattle.std.specs.Prelude.{
  ℕ,
  ◌+◌,
  ◌==◌,
  if◌then◌else◌,
  List,
  [],
  ◌∷◌,
  ◌++◌,
  codes,
  decimal,
  length,
  slice_get,
  Option,
  Some,
  None,
}
use Rattle.record_fields.specs.Words.{sex_word}
use Rattle.record_fields.specs.declared.words.Sex.{Sex}
use Rattle.record_kinds.specs.Model as model
use Rattle.put_back.specs.Rows.{Cells, put}

abbrev pub sex_cell : Option Sex → List ℕ
sex_cell None = []
sex_cell (Some s) = sex_word s

-- a name gets its text at its place in the list, or is added where that has none now
abbrev pub name_row : ℕ → ℕ → List ℕ → Option model.Name → List Cells
name_row n k text None = (codes "name" ∷ decimal n ∷ text ∷ []) ∷ []
name_row n k text (Some now) = put n (codes "name " ++ decimal k) text now.text

-- an empty one is not put back, since a row with it would take the name out
abbrev pub name_back : ℕ → ℕ → model.Name → Option model.Name → List Cells
name_back n k old now = if length old.text == 0 then [] else name_row n k old.text now

-- the names from a place of the list on, which is counted from 0; those that came later stay
abbrev pub names_back : ℕ → ℕ → List model.Name → List model.Name → List Cells
names_back n i [] now = []
names_back n i (x ∷ xs) now = name_back n (i + 1) x (slice_get now i) ++ names_back n (i + 1) xs now

abbrev pub person_back : ℕ → model.Person → model.Person → List Cells
person_back n old now = put n (codes "sex") (sex_cell old.sex) (sex_cell now.sex) ++ names_back n 0 old.names now.names
