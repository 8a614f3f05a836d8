-- The item of a text in decimal, by the number that its digits write. No clause that callers see names it.
use Rattle.std.specs.Prelude.{
  ◌≡◌,
  ◌≤◌,
  ℕ,
  ◌&&◌,
  nat_le,
  List,
  Bool,
  true,
  false,
  Option,
  Some,
  None,
  bytes_eq,
  refl,
  decimal,
}
use Rattle.std.specs.Str.Parse.{digits_value}
use Rattle.std.proofs.Common.{arith}
use Rattle.std.proofs.Math.Dec.{lit≤}
use Rattle.std.proofs.lemmas.Bool.Decides.{nat_tests}
use Rattle.record_fields.specs.declared.item.Item.{Item}

abbrev pub is_item : ℕ → List ℕ → Bool
is_item n text = nat_le 1 n && (nat_le n 999999 && bytes_eq (decimal n) text)

pub item_range : (n : ℕ) (b : Bool) → (nat_le 1 n && (nat_le n 999999 && b)) ≡ true → (1 ≤ n) × (n ≤ 999999)
item_range n b e = grind (arith, nat_tests)

abbrev pub item_if : (n : ℕ) (text : List ℕ) (b : Bool) → is_item n text ≡ b → Option Item
item_if n text true e = Some (record { number = n; in_range = item_range n (bytes_eq (decimal n) text) e })
item_if n text false e = None

unfoldable pub item_of : List ℕ → Option Item
item_of text = item_if (digits_value 10 text) text (is_item (digits_value 10 text) text) refl

pub first_range : (1 ≤ 1) × (1 ≤ 999999)
first_range = (lit≤ tt, lit≤ tt)

-- the first item of a page
abbrev pub first_item : Item
first_item = record { number = 1; in_range = first_range }
