-- Lines picked by what they are. Of a field that a record has once the first line counts, and each further one is
-- carried.
use Rattle.std.specs.Prelude.{ℕ, Bool, List, [], ◌∷◌, Option, Some, None, option_map, if◌then◌else◌}
use Rattle.std.specs.List.{filter, list_any}
use Rattle.stored_lines.specs.Tree.{Tree}
use Rattle.stored_lines.specs.Line.{Line, Lines}
use Rattle.record_shapes.specs.Forms.{text_of}
use Rattle.record_shapes.specs.Fields.{Field, carried, is_same}

-- what is carried once the fields are removed: a line of no field, and a further one of a field that a record has
-- once
abbrev pub is_left : List Field → Field → Bool
is_left once x = list_any (is_same x) (carried ∷ once)

module _ (field : Tree Line → Field) where
  -- all lines of a field
  abbrev pub all_of : Field → Lines → Lines
  all_of x ts = filter (λ t. is_same (field t) x) ts

  -- all lines but the first of a field
  abbrev pub without_first : Field → Lines → Lines
  without_first x [] = []
  without_first x (t ∷ ts) = if is_same (field t) x then ts else t ∷ without_first x ts
      -- all lines but the first of each of these fields

  abbrev pub without_firsts : List Field → Lines → Lines
  without_firsts [] ts = ts
  without_firsts (x ∷ xs) ts = without_firsts xs (without_first x ts)

  -- the lines that are carried, where a record has these fields once
  abbrev pub left : List Field → Lines → Lines
  left once ts = filter (λ t. is_left once (field t)) (without_firsts once ts)

abbrev pub first : {A : Type 0} → List A → Option A
first [] = None
first (t ∷ ts) = Some t

-- the text of the first line of a field
abbrev pub text_at : (Tree Line → Field) → Field → Lines → Option (List ℕ)
text_at field x ts = option_map text_of (first (all_of field x ts))
