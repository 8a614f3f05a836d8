-- Carried lines, and lines as they are stored.
use Rattle.std.specs.Prelude.{ℕ, List, [], Option, Some, None, refl, ◌≡◌, ◌⊎◌}
use Rattle.std.proofs.Common.{inl, inr}
use Rattle.std.specs.Coded.{Coded, code_by, coded×, coded⊎, coded_ℕ, coded_list, coded_option}
use Rattle.stored_lines.specs.Tree.{Tree, coded_tree}
use Rattle.stored_lines.specs.declared.carried.Value.{Value}
use Rattle.stored_lines.specs.declared.carried.Value.TheVariants as value

-- a carried line: a tag, and a text or the number of a record
pub record Line : Type 0 where
  pub tag : List ℕ
  pub value : Value

-- a stored line, its depth apart: a tag, and a text, the number of a record, both or neither
pub record Label : Type 0 where
  pub tag : List ℕ
  pub text : Option (List ℕ)
  pub target : Option ℕ

-- a carried line as it is stored
abbrev pub label_for : List ℕ → Value → Label
label_for tag (value.Text t) = record { tag = tag; text = Some t; target = None }
label_for tag (value.Ref n) = record { tag = tag; text = None; target = Some n }

abbrev pub label_of : Line → Label
label_of l = label_for l.tag l.value

-- a carried line from a stored one: of a line that has a text and a number the text, of one that has neither an empty
-- text
abbrev pub value_for : Option (List ℕ) → Option ℕ → Value
value_for (Some t) n = value.Text t
value_for None (Some n) = value.Ref n
value_for None None = value.Text []

abbrev pub line_of : Label → Line
line_of l = record { tag = l.tag; value = value_for l.text l.target }

-- the codes by which values are distinguished
abbrev pub value_in : Value → List ℕ ⊎ ℕ
value_in (value.Text t) = inl t
value_in (value.Ref n) = inr n

abbrev pub value_from : List ℕ ⊎ ℕ → Value
value_from (inl t) = value.Text t
value_from (inr n) = value.Ref n

pub value_back : (v : Value) → value_from (value_in v) ≡ v
value_back (value.Text t) = refl
value_back (value.Ref n) = refl

abbrev pub value_code : Coded Value
value_code = code_by (List ℕ ⊎ ℕ) (coded⊎ (coded_list coded_ℕ) coded_ℕ) value_in value_from value_back

abbrev pub line_code : Coded Line
line_code = code_by (List ℕ × Value) (coded× (coded_list coded_ℕ) value_code) (λ l. (l.tag, l.value))
    (λ t. record { tag = t.0; value = t.1 }) (λ _. refl)

abbrev pub label_code : Coded Label
label_code = code_by (List ℕ × (Option (List ℕ) × Option ℕ))
    (coded× (coded_list coded_ℕ) (coded× (coded_option (coded_list coded_ℕ)) (coded_option coded_ℕ)))
    (λ l. (l.tag, (l.text, l.target))) (λ t. record { tag = t.0; text = t.1.0; target = t.1.1 }) (λ _. refl)

-- carried lines: trees side by side
abbrev pub Lines : Type 0
Lines = List (Tree Line)

abbrev pub lines_code : Coded Lines
lines_code = coded_list (coded_tree line_code)

-- stored lines, each with those below it
abbrev pub Branches : Type 0
Branches = List (Tree Label)
