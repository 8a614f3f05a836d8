-- Items are read from their decimals again.
use Rattle.std.specs.Prelude.{
  ◌≡◌,
  ◌≢◌,
  ◌≤◌,
  ◌<◌,
  ◌^◌,
  ℕ,
  ◌&&◌,
  ◌==◌,
  nat_le,
  List,
  [],
  ◌∷◌,
  Bool,
  true,
  false,
  Option,
  Some,
  None,
  Result,
  Ok,
  bytes_eq,
  refl,
  decimal,
  length,
  MatchOption,
}
use Rattle.std.specs.List.{list_any}
use Rattle.std.specs.Char.{digit_value}
use Rattle.std.specs.Str.Parse.{digits_value, AllDigits, ParsesUnsigned}
use Rattle.std.proofs.Common.{ap, sym, ◌∙◌, arith, subst, eqb}
use Rattle.std.proofs.Props.{props}
use Rattle.std.proofs.lemmas.Bool.{eqb-true}
use Rattle.std.proofs.lemmas.Bool.Decides.{nat_tests}
use Rattle.std.proofs.lemmas.Fmt.{decimal_is_IsNumeral, length-decimal-le, parse-decimal}
use Rattle.record_text.specs.Text.{IsPlain}
use Rattle.record_fields.specs.Bytes.{bytes_are, bytes_same}
use Rattle.record_fields.specs.Items.{is_item, item_range, item_if, item_of}
use Rattle.record_fields.specs.declared.item.Item.{Item}

range-prop : (n : ℕ) → IsProp ((1 ≤ n) × (n ≤ 999999))
range-prop n = hlevel props

pub same_item : (a b : Item) → a.number ≡ b.number → a ≡ b
same_item a b e =
    let item : (n : ℕ) → (1 ≤ n) × (n ≤ 999999) → Item = λ n h. record { number = n; in_range = h } in
    subst (λ (n : ℕ). (h : (1 ≤ n) × (n ≤ 999999)) → a ≡ item n h) e
    (λ h. ap (item a.number) (range-prop a.number a.in_range h)) b.in_range

small : (n : ℕ) → n ≤ 999999 → n < 2 ^ 64
small n h = omega arith

small-word : (n : ℕ) → n ≤ 999999 → n < 2 ^ 32
small-word n h = omega arith

value : (i : Item) → digits_value 10 (decimal i.number) ≡ i.number
value i = (decimal_is_IsNumeral i.number (small i.number i.in_range.1)).1

in-range : (n : ℕ) (b : Bool) → 1 ≤ n → n ≤ 999999 → b ≡ true → (nat_le 1 n && (nat_le n 999999 && b)) ≡ true
in-range n b l h e = grind (arith, nat_tests)

last-true : (n : ℕ) (b : Bool) → (nat_le 1 n && (nat_le n 999999 && b)) ≡ true → b ≡ true
last-true n b e = grind (arith, nat_tests)

is-item : (i : Item) → is_item i.number (decimal i.number) ≡ true
is-item i = in-range i.number (bytes_eq (decimal i.number) (decimal i.number)) i.in_range.0 i.in_range.1
    (bytes_same (decimal i.number) (decimal i.number) refl)

item-if : (i : Item) (n : ℕ) (b : Bool) (e : is_item n (decimal i.number) ≡ b) → n ≡ i.number
    → item_if n (decimal i.number) b e ≡ Some i
item-if i n true e h =
    ap Some (same_item (record { number = n; in_range = item_range n (bytes_eq (decimal n) (decimal i.number)) e }) i h)
item-if i n false e h = let good : is_item n (decimal i.number) ≡ true = subst
    (λ (m : ℕ). is_item m (decimal i.number) ≡ true) (sym h) (is-item i) in absurd cc

pub item_back : (i : Item) → item_of (decimal i.number) ≡ Some i
unfolding item_of
item_back i = item-if i (digits_value 10 (decimal i.number))
    (is_item (digits_value 10 (decimal i.number)) (decimal i.number)) refl (value i)

item-spelt : (n : ℕ) (text : List ℕ) (b : Bool) (e : is_item n text ≡ b) (i : Item) → item_if n text b e ≡ Some i
    → text ≡ decimal i.number
item-spelt n text true e i h =
    let spelt : text ≡ decimal n = sym (bytes_are (decimal n) text (last-true n (bytes_eq (decimal n) text) e)) in
    let same : record { number = n; in_range = item_range n (bytes_eq (decimal n) text) e } ≡ i = cc in
    spelt ∙ ap (λ (j : Item). decimal j.number) same
item-spelt n text false e i h = absurd cc

item-is : (text : List ℕ) (i : Item) → item_of text ≡ Some i → text ≡ decimal i.number
unfolding item_of
item-is text i h = item-spelt (digits_value 10 text) text (is_item (digits_value 10 text) text) refl i h

pub item_read : (text : List ℕ) (r : Option Item) → MatchOption r ((i : Item) → text ≢ decimal i.number)
    (λ i. text ≡ decimal i.number) → r ≡ item_of text
item_read text (Some i) is = sym (item_back i) ∙ ap item_of (sym is)
item_read text None lacks = none (item_of text) refl
  where
    none : (o : Option Item) → item_of text ≡ o → None ≡ o
    none None e = refl
    none (Some i) e = absurd (lacks i (item-is text i e))

-- what a text parses as, where it is the decimal of an item
pub parsed : {E : Type 0} (text : List ℕ) (r : Result ℕ E) → ParsesUnsigned 32 10 text r → (i : Item)
    → text ≡ decimal i.number → r ≡ Ok i.number
parsed text r h i e = parse-decimal 32 i.number text r (small-word i.number i.in_range.1)
    (small i.number i.in_range.1) e h

-- a byte that is no digit is none of digits
none-of : (x : ℕ) → ¬ (digit_value x < 10) → (ds : List ℕ) → AllDigits 10 ds → list_any (λ b. b == x) ds ≡ false
none-of x lacks [] h = refl
none-of x lacks (c ∷ cs) h =
    let later : list_any (λ b. b == x) cs ≡ false = none-of x lacks cs h.1 in
    elim (eqb c x) as (λ v. eqb c x ≡ v → list_any (λ b. b == x) (c ∷ cs) ≡ false) [
      | true ↦ λ e. absurd (lacks (subst (λ (y : ℕ). digit_value y < 10) (eqb-true c x e) h.0))
      | false ↦ λ e. grind (arith, nat_tests)
    ] refl

plain : (n : ℕ) → n ≤ 999999 → IsPlain (decimal n)
plain n h =
    let digits = (decimal_is_IsNumeral n (small n h)).0.1 in
    let short : length (decimal n) ≤ 6 = length-decimal-le 6 n (omega arith) (omega arith) (small n h) in
    record {
      no_nul = none-of 0 (λ l. omega arith) (decimal n) digits;
      no_cr = none-of 13 (λ l. omega arith) (decimal n) digits;
      short = omega arith;
    }

pub decimal_is_plain : (n : ℕ) (text : List ℕ) → text ≡ decimal n → (1 ≤ n) × (n ≤ 999999) → IsPlain text
decimal_is_plain n text e h = subst IsPlain (sym e) (plain n h.1)

pub parsed_number : {E : Type 0} (text : List ℕ) (r : Result ℕ E) → ParsesUnsigned 32 10 text r → (n : ℕ) → r ≡ Ok n
    → (i : Item) → text ≡ decimal i.number → n ≡ i.number
parsed_number text r h n is i e = let both : r ≡ Ok i.number = parsed text r h i e in cc
