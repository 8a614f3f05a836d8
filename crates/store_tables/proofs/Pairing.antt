-- Pairs of numbers of 32 bits: the integer of a pair is that of no other, and integers are in the order of their pairs.
use Rattle.std.proofs.Common.{
  ◌≡◌,
  ℕ,
  ◌<◌,
  ◌^◌,
  ◌==◌,
  ◌&&◌,
  Bool,
  true,
  false,
  List,
  [],
  ◌∷◌,
  map,
  refl,
  sym,
  ap,
  ap₂,
  subst,
  ◌∙◌,
  arith,
  nat_cmp,
  Less,
  Equal,
  Greater,
}
use Rattle.std.specs.Ordering.{int_cmp, ordering_then}
use Rattle.std.specs.List.{AllByRecursion}
use Rattle.std.proofs.lemmas.Bool.Decides.{nat_tests}
use Rattle.std.proofs.lemmas.Nat.{div-mul-add, mod-mul-add}
use Rattle.sqlite.specs.declared.types.Value.TheVariants.{Int}
use Rattle.sqlite.specs.Order.{value_cmp}
use Rattle.sqlite.specs.Tree.{IsAscending, Trees}
use Rattle.sqlite_value.proofs.OrderLemmas.{value_cmp-Int}
use Rattle.store_tables.specs.Reading.{IsTypedLink, IsU32, pair_at, read_link}
use Rattle.store_tables.specs.Rows.{
  Holds,
  HoldsOwn,
  LineRow,
  LinkRow,
  PackRow,
  Rows,
  SoughtRow,
  SpanRow,
  integer_at,
  link_place,
  pair_cmp,
  pair_place,
  put_by,
  put_pair,
}

-- integers are in the order of their places
pub int_places : (m n : ℕ) → int_cmp (integer_at m) (integer_at n) ≡ nat_cmp m n
int_places m n = grind (arith, nat_tests)

pub integer_order : (m n : ℕ) → value_cmp (Int (integer_at m)) (Int (integer_at n)) ≡ nat_cmp m n
integer_order m n = value_cmp-Int (integer_at m) (integer_at n) ∙ int_places m n

-- no two places have one integer
same_place : (p q : ℕ) → integer_at p ≡ integer_at q → p ≡ q
same_place p q h =
    let e : nat_cmp p q ≡ nat_cmp q q = sym (int_places p q) ∙ ap (λ i. int_cmp i (integer_at q)) h ∙ int_places q q in
    grind (arith, nat_tests, e)

-- the pair at the place of a pair
pub pair_again : (target n : ℕ) → IsU32 n → pair_at (pair_place target n) ≡ record { target = target; no = n }
pair_again target n low =
    ap₂ (λ t m. record { target = t; no = m }) (div-mul-add target (2 ^ 32) n low) (mod-mul-add target (2 ^ 32) n low)

-- no two pairs have one place
pub one_pair : (t n u m : ℕ) → IsU32 n → IsU32 m → pair_place t n ≡ pair_place u m → (t ≡ u) × (n ≡ m)
one_pair t n u m a b e = (omega (arith, a, b, e), omega (arith, a, b, e))

-- nor have they one integer
pub one_integer : (t n u m : ℕ) → IsU32 n → IsU32 m → integer_at (pair_place t n) ≡ integer_at (pair_place u m)
    → (t ≡ u) × (n ≡ m)
one_integer t n u m a b e = one_pair t n u m a b (same_place (pair_place t n) (pair_place u m) e)

-- places are in the order of their pairs
pub in_pair_order : (l m : LinkRow) → IsU32 l.no → IsU32 m.no → pair_cmp l m ≡ nat_cmp (link_place l) (link_place m)
in_pair_order l m a b =
    elim (nat_cmp l.target m.target) as (λ o. nat_cmp l.target m.target ≡ o
    → ordering_then o (nat_cmp l.no m.no) ≡ nat_cmp (link_place l) (link_place m)) [
      | Less ↦ λ e. let low : l.target < m.target = grind (arith, nat_tests, e) in
          sym (first_before l.target l.no m.target m.no low a)
      | Equal ↦ λ e. let same : l.target ≡ m.target = grind (arith, nat_tests, e) in
          sym (one_target l.target l.no m.target m.no same)
      | Greater ↦ λ e. let high : m.target < l.target = grind (arith, nat_tests, e) in
          sym (first_behind l.target l.no m.target m.no high b)
    ] refl
  where
    first_before : (t n u m : ℕ) → t < u → n < 2 ^ 32 → nat_cmp (pair_place t n) (pair_place u m) ≡ Less
    first_before t n u m low h =
        let under : pair_place t n < pair_place u m = omega (arith, low, h) in grind (arith, nat_tests, under)

    first_behind : (t n u m : ℕ) → u < t → m < 2 ^ 32 → nat_cmp (pair_place t n) (pair_place u m) ≡ Greater
    first_behind t n u m high h =
        let over : pair_place u m < pair_place t n = omega (arith, high, h) in grind (arith, nat_tests, over)

    one_target : (t n u m : ℕ) → t ≡ u → nat_cmp (pair_place t n) (pair_place u m) ≡ nat_cmp n m
    one_target t n u m same = grind (arith, nat_tests, same)

-- and so are integers
pub integers_ordered : (l m : LinkRow) → IsU32 l.no → IsU32 m.no
    → int_cmp (integer_at (link_place l)) (integer_at (link_place m)) ≡ pair_cmp l m
integers_ordered l m a b = int_places (link_place l) (link_place m) ∙ sym (in_pair_order l m a b)

-- a pair that is put in the order of pairs is put in that of their places
pub put_at_place : (l : LinkRow) → IsU32 l.no → (ms : List LinkRow) → AllByRecursion IsTypedLink ms
    → put_pair l ms ≡ put_by link_place l ms
put_at_place l low [] h = refl
put_at_place l low (m ∷ ms) h = rw (in_pair_order m l h.0.1 low, put_at_place l low ms h.1) refl

-- the tests of a place are those of its pair
pub is_place : (t n u m : ℕ) → IsU32 n → IsU32 m → (pair_place t n == pair_place u m) ≡ ((t == u) && (n == m))
is_place t n u m a b = grind (arith, nat_tests, a, b)

-- typed links are read as they are
pub links_again : (ls : List LinkRow) → AllByRecursion IsTypedLink ls → map read_link ls ≡ ls
links_again [] h = refl
links_again (l ∷ ls) h = ap₂ (λ x xs. x ∷ xs) (pair_again l.target l.no h.0.1) (links_again ls h.1)

-- the links that tables hold are in the order of their places; those of the first schema hold none
pub links_rise : (rows : Rows) (t : Trees) → Holds rows t → IsAscending (λ a b. link_place a < link_place b) rows.links
links_rise rows t h = go rows.has_spans rows.lines rows.packs rows.spans rows.links rows.soughts h.own
  where
    go : (b : Bool) (lines : List LineRow) (packs : List PackRow) (spans : List SpanRow) (links : List LinkRow)
        (soughts : List SoughtRow) → HoldsOwn b lines packs spans links soughts t
        → IsAscending (λ a b. link_place a < link_place b) links
    go false lines packs spans links soughts held =
        subst (IsAscending (λ a b. link_place a < link_place b)) (sym held.3) tt
    go true lines packs spans links soughts held = held.1.links_kept.rise

-- and each number has one row with all its lines at the most
pub packs_rise : (rows : Rows) (t : Trees) → Holds rows t
    → IsAscending (λ (a b : PackRow). a.no < b.no) rows.packs
packs_rise rows t h = go rows.has_spans rows.lines rows.packs rows.spans rows.links rows.soughts h.own
  where
    go : (b : Bool) (lines : List LineRow) (packs : List PackRow) (spans : List SpanRow) (links : List LinkRow)
        (soughts : List SoughtRow) → HoldsOwn b lines packs spans links soughts t
        → IsAscending (λ (a b : PackRow). a.no < b.no) packs
    go false lines packs spans links soughts held =
        subst (IsAscending (λ (a b : PackRow). a.no < b.no)) (sym held.1) tt
    go true lines packs spans links soughts held = held.1.packs_kept.rise
