-- What a line is by itself, and by the record that its pointer names.
use Rattle.std.specs.Prelude.{ℕ, ◌&&◌, Bool, true, false, List, [], ◌∷◌, Option, Some, None, bytes_eq}
use Rattle.std.specs.List.{list_any}
use Rattle.stored_lines.specs.Tree.{Tree, node, none, more, list_of}
use Rattle.stored_lines.specs.Line.{Line, Lines}
use Rattle.stored_lines.specs.declared.carried.Value.{Value}
use Rattle.stored_lines.specs.declared.carried.Value.TheVariants as value

-- what is known of the records that are written at level 0, by their numbers: the tag of each, and of a place its path
pub record Known : Type 0 where
  pub tag : ℕ → List ℕ
  pub path : ℕ → Option (List ℕ)

abbrev pub tag_of : Tree Line → List ℕ
tag_of (node l f) = l.tag

abbrev pub value_of : Tree Line → Value
value_of (node l f) = l.value

-- the lines right below a line
abbrev pub below : Tree Line → Lines
below (node l f) = list_of f

abbrev pub is_childless : Tree Line → Bool
is_childless (node l none) = true
is_childless (node l (more t ts)) = false

abbrev pub is_text_value : Value → Bool
is_text_value (value.Text t) = true
is_text_value (value.Ref n) = false

abbrev pub is_text : Tree Line → Bool
is_text t = is_text_value (value_of t)

-- a text, and no line below it
abbrev pub is_bare : Tree Line → Bool
is_bare t = is_text t && is_childless t

-- the text of a line; of a pointer none
abbrev pub text_in : Value → List ℕ
text_in (value.Text t) = t
text_in (value.Ref n) = []

abbrev pub text_of : Tree Line → List ℕ
text_of t = text_in (value_of t)

-- the number that a pointer names; of a text 0
abbrev pub number_in : Value → ℕ
number_in (value.Text t) = 0
number_in (value.Ref n) = n

abbrev pub number_of : Tree Line → ℕ
number_of t = number_in (value_of t)

abbrev pub tagged : List ℕ → Tree Line → Bool
tagged tag t = bytes_eq (tag_of t) tag

abbrev pub is_among : List (List ℕ) → Tree Line → Bool
is_among tags t = list_any (bytes_eq (tag_of t)) tags

-- the value names a record that is written with that tag
abbrev pub names_a : List ℕ → Known → Value → Bool
names_a tag known (value.Text t) = false
names_a tag known (value.Ref n) = bytes_eq (known.tag n) tag

abbrev pub is_some : {A : Type 0} → Option A → Bool
is_some None = false
is_some (Some a) = true

abbrev pub is_empty : List ℕ → Bool
is_empty [] = true
is_empty (b ∷ bs) = false
