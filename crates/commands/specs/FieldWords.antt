-- The field of a record whose word a row gives, by the value of the word: a rule of our own. The words are those of
-- `corrections`.
use Rattle.std.specs.Prelude.{
  ◌≡◌,
  ◌≤◌,
  ℕ,
  ◌&&◌,
  ◌==◌,
  nat_le,
  List,
  [],
  ◌∷◌,
  Bool,
  true,
  false,
  Option,
  Some,
  None,
  option_map,
  bytes_eq,
  codes,
  decimal,
  refl,
  if◌then◌else◌,
}
use Rattle.std.specs.Str.Parse.{digits_value}
use Rattle.std.proofs.Common.{arith}
use Rattle.std.proofs.lemmas.Bool.Decides.{nat_tests}
use Rattle.corrections.specs.Fields.{plain_field_of}
use Rattle.corrections.specs.declared.field.Field.{Field}
use Rattle.corrections.specs.declared.field.Field.TheVariants as field
use Rattle.corrections.specs.declared.field.TextField.{TextField}
use Rattle.corrections.specs.declared.field.TextField.TheVariants as text_field
use Rattle.corrections.specs.declared.position.Position.{Position}

-- ---- places in a list
-- 1 to 4,294,967,295, in its decimal
abbrev pub is_position : ℕ → List ℕ → Bool
is_position n words = nat_le 1 n && (nat_le n 4294967295 && bytes_eq (decimal n) words)

pub position_range : (n : ℕ) (b : Bool) → (nat_le 1 n && (nat_le n 4294967295 && b)) ≡ true
    → (1 ≤ n) × (n ≤ 4294967295)
position_range n b e = grind (arith, nat_tests)

abbrev pub position_if : (n : ℕ) (words : List ℕ) (b : Bool) → is_position n words ≡ b → Option Position
position_if n words true e = Some (record { number = n; in_range = position_range n (bytes_eq (decimal n) words) e })
position_if n words false e = None

unfoldable pub position_of : List ℕ → Option Position
position_of words = position_if (digits_value 10 words) words (is_position (digits_value 10 words) words) refl

-- ---- words
-- what stands after a front
abbrev pub after_front : List ℕ → List ℕ → Option (List ℕ)
after_front [] word = Some word
after_front (a ∷ front) [] = None
after_front (a ∷ front) (b ∷ word) = if a == b then after_front front word else None

-- a field with a place in a list
abbrev pub placed : (Position → TextField) → Option (List ℕ) → Option Field
placed make None = None
placed make (Some words) = option_map (λ p. field.Text (make p)) (position_of words)

abbrev pub or_else : Option Field → Option Field → Option Field
or_else None o = o
or_else (Some f) o = Some f

unfoldable pub field_of : List ℕ → Option Field
field_of word =
    or_else (plain_field_of word)
    (or_else (placed (λ p. text_field.NameAt p) (after_front (codes "name ") word))
    (placed (λ p. text_field.RoleAt p) (after_front (codes "role ") word)))
