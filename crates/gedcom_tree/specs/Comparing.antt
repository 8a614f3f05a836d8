-- Whether two forests are the same but for the numbers of their lines, by computing.
use Rattle.std.specs.Prelude.{ℕ, Bool, true, false, ◌==◌, List}
use Rattle.std.specs.Bool.{beq}
use Rattle.std.specs.Cmp.Lexicographic.{pointwise}
use Rattle.std.specs.Option.{option_eq}
use Rattle.std.specs.Ordering.{on, eq_of_both}
use Rattle.gedcom_line.specs.Value.{Meaning, Text, Pointer}
use Rattle.gedcom_tree.specs.Forest.{Item}

abbrev pub is_pointer : Meaning → Bool
is_pointer (Text t) = false
is_pointer (Pointer p) = true

-- the bytes of a text, or of a pointer
abbrev pub value_bytes : Meaning → List ℕ
value_bytes (Text t) = t
value_bytes (Pointer p) = p

-- both are texts or both pointers, of the same bytes
abbrev pub is_same_value : Meaning → Meaning → Bool
is_same_value = eq_of_both (on is_pointer beq) (on value_bytes (pointwise ◌==◌))

-- the same level, cross reference, tag and value
abbrev pub is_same_item : Item → Item → Bool
is_same_item =
    eq_of_both (on (λ i. i.level) ◌==◌)
    (eq_of_both (on (λ i. i.xref) (option_eq (pointwise ◌==◌)))
    (eq_of_both (on (λ i. i.tag) (pointwise ◌==◌)) (on (λ i. i.value) is_same_value)))

-- one node after another, and no more of either
abbrev pub are_same : List Item → List Item → Bool
are_same = pointwise is_same_item
