-- The item that a number is, by the values that items have.
use Rattle.std.specs.Prelude.{◌≡◌, ◌≤◌, ℕ, Bool, true, false, Option, Some, None, MatchOption, refl}
use Rattle.std.proofs.Common.{ap, sym, subst, arith}
use Rattle.std.proofs.lemmas.Bool.Decides.{nat_tests}
use Rattle.record_fields.specs.declared.item.Item.{Item}
use Rattle.record_fields.proofs.Items.{same_item}
use Rattle.commands.specs.Items.{is_item, item_at, item_if, item_range}

in-range : (n : ℕ) → 1 ≤ n → n ≤ 999999 → is_item n ≡ true
in-range n l h = grind (arith, nat_tests)

item-if : (i : Item) (n : ℕ) (b : Bool) (e : is_item n ≡ b) → n ≡ i.number → item_if n b e ≡ Some i
item-if i n true e h = ap Some (same_item (record { number = n; in_range = item_range n e }) i h)
item-if i n false e h =
    let good : is_item n ≡ true = subst (λ (m : ℕ). is_item m ≡ true) (sym h)
    (in-range i.number i.in_range.0 i.in_range.1) in
    absurd cc

none-if : (n : ℕ) (b : Bool) (e : is_item n ≡ b) → ¬ ((1 ≤ n) × (n ≤ 999999)) → None ≡ item_if n b e
none-if n true e lacks = absurd (lacks (item_range n e))
none-if n false e lacks = refl

pub item_back : (i : Item) → item_at i.number ≡ Some i
unfolding item_at
item_back i = item-if i i.number (is_item i.number) refl refl

pub item_found : (n : ℕ) (r : Option Item) → MatchOption r (¬ ((1 ≤ n) × (n ≤ 999999)))
    (λ i. i.number ≡ n) → r ≡ item_at n
unfolding item_at
item_found n (Some i) is = sym (item-if i n (is_item n) refl (sym is))
item_found n None lacks = none-if n (is_item n) refl lacks
