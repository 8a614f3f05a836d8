-- The item of a register entry that a number is: a rule of our own.
use Rattle.std.specs.Prelude.{◌≡◌, ◌≤◌, ℕ, ◌&&◌, nat_le, Bool, true, false, Option, Some, None, refl}
use Rattle.std.proofs.Common.{arith}
use Rattle.std.proofs.lemmas.Bool.Decides.{nat_tests}
use Rattle.record_fields.specs.declared.item.Item.{Item}

-- 1 to 999,999
abbrev pub is_item : ℕ → Bool
is_item n = nat_le 1 n && nat_le n 999999

pub item_range : (n : ℕ) → is_item n ≡ true → (1 ≤ n) × (n ≤ 999999)
item_range n e = grind (arith, nat_tests)

abbrev pub item_if : (n : ℕ) (b : Bool) → is_item n ≡ b → Option Item
item_if n true e = Some (record { number = n; in_range = item_range n e })
item_if n false e = None

unfoldable pub item_at : ℕ → Option Item
item_at n = item_if n (is_item n) refl
