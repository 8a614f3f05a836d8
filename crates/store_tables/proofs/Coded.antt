-- A table whose rows are coded items with numbers of their own: what a step's edit makes of it.
use Rattle.std.proofs.Common.{
  ◌≡◌,
  ℕ,
  ◌<◌,
  ◌+◌,
  ◌+ℤ◌,
  ◌==◌,
  ℤ,
  pos,
  List,
  [],
  ◌∷◌,
  ◌++◌,
  map,
  filter,
  fold,
  Bool,
  true,
  false,
  not,
  ◌&&◌,
  ◌||◌,
  cond,
  refl,
  sym,
  ap,
  ap₂,
  subst,
  ◌∙◌,
  arith,
  Ordering,
  Less,
  Equal,
  Greater,
  nat_cmp,
}
use Rattle.std.specs.Ordering.{is_eq, match_ordering}
use Rattle.std.specs.List.{AllByRecursion, list_any}
use Rattle.std.specs.List.Sorted.{IsPermutation}
use Rattle.std.proofs.lemmas.List.Sorted.{list_any-IsPermutation}
use Rattle.std.proofs.lemmas.Bool.Decides.{nat_tests}
use Rattle.sqlite.specs.declared.types.Value.TheVariants.{Int}
use Rattle.sqlite.specs.Order.{Row, value_cmp}
use Rattle.sqlite.specs.Tree.{rowid, has_rowid, put_row, without_rowid, IsAscending}
use Rattle.sqlite.specs.Edit.{without_all, next_rowid, id_in}
use Rattle.store_tables.specs.Rows.{put_by, next_key, Keeps}
use Rattle.sqlite_value.proofs.OrderLemmas.{value_cmp-Int}
use Rattle.sqlite_trees.proofs.ListLemmas.{filter-map}
use Rattle.list_laws.proofs.Lists.{filter_all, any_mapped, all_then, any_alike}

pub int_order : (m n : ℕ) → value_cmp (Int (pos m)) (Int (pos n)) ≡ nat_cmp m n
int_order m n = value_cmp-Int (pos m) (pos n) ∙ grind (arith, nat_tests)

pub less : (m n : ℕ) → m < n → nat_cmp m n ≡ Less
less m n h = grind (arith, nat_tests)

pub same_int : (m n : ℕ) → is_eq (value_cmp (Int (pos m)) (Int (pos n))) ≡ (m == n)
same_int m n = ap is_eq (int_order m n) ∙ grind (arith, nat_tests)

filter_twice : {X : Type 0} (p q : X → Bool) (xs : List X) → filter q (filter p xs) ≡ filter (λ x. p x && q x) xs
filter_twice p q [] = refl
filter_twice p q (x ∷ xs) = go (filter_twice p q xs) (p x)
  where
    go : filter q (filter p xs) ≡ filter (λ x. p x && q x) xs → (b : Bool)
        → filter q (cond b (x ∷ filter p xs) (filter p xs)) ≡ cond (b && q x) (x ∷ filter (λ x. p x && q x) xs)
        (filter (λ x. p x && q x) xs)
    go ih true = ap (λ ys. cond (q x) (x ∷ ys) ys) ih
    go ih false = ih

pub filter_same : {X : Type 0} (p q : X → Bool) (xs : List X) → AllByRecursion (λ x. p x ≡ q x) xs
    → filter p xs ≡ filter q xs
filter_same p q [] h = refl
filter_same p q (x ∷ xs) h = rw (h.0, filter_same p q xs h.1) refl

none_of : (a b : Bool) → (not a && not b) ≡ not (a || b)
none_of true b = refl
none_of false b = refl

all_true : {X : Type 0} (P : X → Type 0) → ((x : X) → P x) → (xs : List X) → AllByRecursion P xs
all_true P h [] = tt
all_true P h (x ∷ xs) = (h x, all_true P h xs)

all_both : {X : Type 0} (P Q R : X → Type 0) → ((x : X) → P x → Q x → R x) → (xs : List X) → AllByRecursion P xs
    → AllByRecursion Q xs → AllByRecursion R xs
all_both P Q R h [] ps qs = tt
all_both P Q R h (x ∷ xs) ps qs = (h x ps.0 qs.0, all_both P Q R h xs ps.1 qs.1)

-- taking rowids out one by one is one filter
pub taken_out : (ids : List ℤ) (rows : List Row) → without_all rows ids ≡ filter
    (λ r. not (list_any (λ id. has_rowid id r) ids)) rows
taken_out [] rows = sym (filter_all rows)
taken_out (id ∷ ids) rows =
    taken_out ids (without_rowid id rows) ∙ filter_twice _ _ rows
    ∙ filter_same _ _ rows (all_true _ (λ r. none_of (has_rowid id r) (list_any (λ i. has_rowid i r) ids)) rows)

module _ {X : Type 0} (key : X → ℕ) where
  none_above : (k : ℕ) (q : X → Bool) (xs : List X) → AllByRecursion (λ y. k < key y) xs
      → list_any (λ y. key y == k) (filter q xs) ≡ false
  none_above k q [] h = refl
  none_above k q (x ∷ xs) h = go (none_above k q xs h.1) (q x)
    where
      go : list_any (λ y. key y == k) (filter q xs) ≡ false → (b : Bool) → list_any (λ y. key y == k)
          (cond b (x ∷ filter q xs) (filter q xs)) ≡ false
      go ih true = let off : (key x == k) ≡ false = grind (arith, nat_tests, h.0) in rw off ih
      go ih false = ih

  -- where no key comes twice, an item's key is among those of a filter exactly if it passes
  pub key_passes : (q : X → Bool) (xs : List X) → IsAscending (λ a b. key a < key b) xs
      → AllByRecursion (λ x. list_any (λ y. key y == key x) (filter q xs) ≡ q x) xs
  key_passes q [] h = tt
  key_passes q (z ∷ zs) h = (first (q z), all_both _ _ _ later zs h.0 (key_passes q zs h.1))
    where
      first : (b : Bool) → list_any (λ y. key y == key z) (cond b (z ∷ filter q zs) (filter q zs)) ≡ b
      first true = let same : (key z == key z) ≡ true = grind (arith, nat_tests) in rw same refl
      first false = none_above (key z) q zs h.0

      later : (x : X) → key z < key x → list_any (λ y. key y == key x) (filter q zs) ≡ q x
          → list_any (λ y. key y == key x) (cond (q z) (z ∷ filter q zs) (filter q zs)) ≡ q x
      later x low ih = go (q z)
        where
          go : (b : Bool) → list_any (λ y. key y == key x) (cond b (z ∷ filter q zs) (filter q zs)) ≡ q x
          go true = let off : (key z == key x) ≡ false = grind (arith, nat_tests, low) in rw off ih
          go false = ih

-- integers that are in the order of numbers: `at n` is the one of n
module _ (at : ℕ → ℤ) (order : (m n : ℕ) → value_cmp (Int (at m)) (Int (at n)) ≡ nat_cmp m n) where
  pub same_at : (m n : ℕ) → is_eq (value_cmp (Int (at m)) (Int (at n))) ≡ (m == n)
  same_at m n = ap is_eq (order m n) ∙ grind (arith, nat_tests)

module _ (at : ℕ → ℤ) (order : (m n : ℕ) → value_cmp (Int (at m)) (Int (at n)) ≡ nat_cmp m n) {X : Type 0}
    (enc : X → Row) (key : X → ℕ) (keyed : (x : X) → rowid (enc x) ≡ Int (at (key x))) where
  is_row : (x y : X) → has_rowid (at (key y)) (enc x) ≡ (key y == key x)
  is_row x y = ap (λ v. is_eq (value_cmp v (Int (at (key y))))) (keyed x) ∙ same_at at order (key x) (key y)
      ∙ grind (arith, nat_tests)

  -- the rows that a DELETE finds, in any order, are removed
  pub deleted : (q : X → Bool) (xs : List X) (ids : List ℤ) → IsAscending (λ a b. key a < key b) xs
      → IsPermutation (map (λ x. at (key x)) (filter q xs)) ids
      → without_all (map enc xs) ids ≡ map enc (filter (λ x. not (q x)) xs)
  deleted q xs ids rise found =
      taken_out ids (map enc xs) ∙ filter-map _ enc xs
      ∙ ap (map enc) (filter_same _ _ xs
      (all_both _ (λ _. Unit {0}) _
      (λ x h _. ap not (sym (list_any-IsPermutation (λ id. has_rowid id (enc x)) _ _ found)
      ∙ any_mapped _ _ (filter q xs) ∙ any_alike _ _ (is_row x) (filter q xs) ∙ h)) xs
      (key_passes key q xs rise) (all_true _ (λ _. tt) xs)))

module _ {X : Type 0} (enc : X → Row) (key : X → ℕ) (keyed : (x : X) → rowid (enc x) ≡ Int (pos (key x))) where
  -- a row that comes after all others is put last
  pub put_last : (new : X) (xs : List X) → AllByRecursion (λ x. key x < key new) xs
      → put_row (enc new) (map enc xs) ≡ map enc (xs ++ new ∷ [])
  put_last new [] below = refl
  put_last new (x ∷ xs) below =
      ap (λ o. match_ordering o (enc x ∷ put_row (enc new) (map enc xs)) (enc new ∷ map enc xs)
      (enc new ∷ enc x ∷ map enc xs)) (ap₂ value_cmp (keyed x) (keyed new) ∙ int_order (key x) (key new)
      ∙ less (key x) (key new) below.0)
      ∙ ap (λ rows. enc x ∷ rows) (put_last new xs below.1)

below_if : (m n : ℕ) → nat_cmp m n ≡ Less → m < n
below_if m n e = grind (arith, nat_tests, e)

same_if : (m n : ℕ) → nat_cmp m n ≡ Equal → m ≡ n
same_if m n e = grind (arith, nat_tests, e)

above_if : (m n : ℕ) → nat_cmp m n ≡ Greater → n < m
above_if m n e = grind (arith, nat_tests, e)

pub kept_by : {X : Type 0} (P : X → Type 0) (p : X → Bool) (xs : List X) → AllByRecursion P xs
    → AllByRecursion P (filter p xs)
kept_by P p [] h = tt
kept_by P p (x ∷ xs) h = go (p x) (kept_by P p xs h.1)
  where
    go : (b : Bool) → AllByRecursion P (filter p xs) → AllByRecursion P (cond b (x ∷ filter p xs) (filter p xs))
    go true more = (h.0, more)
    go false more = more

pub still_ascends : {X : Type 0} (R : X → X → Type 0) (p : X → Bool) (xs : List X) → IsAscending R xs
    → IsAscending R (filter p xs)
still_ascends R p [] h = tt
still_ascends R p (x ∷ xs) h = go (p x) (still_ascends R p xs h.1)
  where
    go : (b : Bool) → IsAscending R (filter p xs) → IsAscending R (cond b (x ∷ filter p xs) (filter p xs))
    go true more = (kept_by (R x) p xs h.0, more)
    go false more = more

pub rises_then : {X : Type 0} (R : X → X → Type 0) (xs : List X) (x : X) → IsAscending R xs
    → AllByRecursion (λ y. R y x) xs → IsAscending R (xs ++ x ∷ [])
rises_then R [] x h below = (tt, tt)
rises_then R (y ∷ ys) x h below = (all_then (R y) ys x h.0 below.0, rises_then R ys x h.1 below.1)

module _ {X : Type 0} (key : X → ℕ) where
  put_above : (k : ℕ) (p : X) (qs : List X) → k < key p → AllByRecursion (λ q. k < key q) qs
      → AllByRecursion (λ q. k < key q) (put_by key p qs)
  put_above k p [] low h = (low, tt)
  put_above k p (q ∷ qs) low h = go (nat_cmp (key q) (key p)) (put_above k p qs low h.1)
    where
      go : (o : Ordering) → AllByRecursion (λ q. k < key q) (put_by key p qs)
          → AllByRecursion (λ q. k < key q) (match_ordering o (q ∷ put_by key p qs) (p ∷ qs) (p ∷ q ∷ qs))
      go Less more = (h.0, more)
      go Equal more = (low, h.1)
      go Greater more = (low, (h.0, h.1))

  pub all_lower : (j k : ℕ) (qs : List X) → j < k → AllByRecursion (λ q. k < key q) qs
      → AllByRecursion (λ q. j < key q) qs
  all_lower j k [] low h = tt
  all_lower j k (q ∷ qs) low h = (omega (arith, h.0, low), all_lower j k qs low h.1)

  pub put_rises : (p : X) (qs : List X) → IsAscending (λ a b. key a < key b) qs
      → IsAscending (λ a b. key a < key b) (put_by key p qs)
  put_rises p [] h = (tt, tt)
  put_rises p (q ∷ qs) h = go (nat_cmp (key q) (key p)) refl (put_rises p qs h.1)
    where
      go : (o : Ordering) → nat_cmp (key q) (key p) ≡ o → IsAscending (λ a b. key a < key b) (put_by key p qs)
          → IsAscending (λ a b. key a < key b) (match_ordering o (q ∷ put_by key p qs) (p ∷ qs) (p ∷ q ∷ qs))
      go Less e ih = (put_above (key q) p qs (below_if (key q) (key p) e) h.0, ih)
      go Equal e ih = (subst (λ k. AllByRecursion (λ r. k < key r) qs) (same_if (key q) (key p) e) h.0, h.1)
      go Greater e ih = ((above_if (key q) (key p) e, all_lower (key p) (key q) qs (above_if (key q) (key p) e) h.0), h)

module _ (at : ℕ → ℤ) (order : (m n : ℕ) → value_cmp (Int (at m)) (Int (at n)) ≡ nat_cmp m n) {X : Type 0}
    (enc : X → Row) (key : X → ℕ) (keyed : (x : X) → rowid (enc x) ≡ Int (at (key x))) where
  put_is : (p : X) (qs : List X) → put_row (enc p) (map enc qs) ≡ map enc (put_by key p qs)
  put_is p [] = refl
  put_is p (q ∷ qs) =
      ap (λ o. match_ordering o (enc q ∷ put_row (enc p) (map enc qs)) (enc p ∷ map enc qs)
      (enc p ∷ enc q ∷ map enc qs)) (ap₂ value_cmp (keyed q) (keyed p) ∙ order (key q) (key p))
      ∙ go (nat_cmp (key q) (key p)) (put_is p qs)
    where
      go : (o : Ordering) → put_row (enc p) (map enc qs) ≡ map enc (put_by key p qs)
          → match_ordering o (enc q ∷ put_row (enc p) (map enc qs)) (enc p ∷ map enc qs) (enc p ∷ enc q ∷ map enc qs)
          ≡ map enc (match_ordering o (q ∷ put_by key p qs) (p ∷ qs) (p ∷ q ∷ qs))
      go Less ih = ap (λ rows. enc q ∷ rows) ih
      go Equal ih = refl
      go Greater ih = refl

  -- a row with a given key
  pub keeps_put_at : (p : X) (xs : List X) (rows : List Row) → Keeps enc key xs rows
      → Keeps enc key (put_by key p xs) (put_row (enc p) rows)
  keeps_put_at p xs rows was = record {
    is = ap (put_row (enc p)) was.is ∙ put_is p xs;
    rise = put_rises key p xs was.rise;
  }

  -- the rows that a query found, in any order, removed
  pub keeps_less_at : (q : X → Bool) (xs : List X) (rows : List Row) (ids : List ℤ)
      → IsPermutation (map (λ x. at (key x)) (filter q xs)) ids → Keeps enc key xs rows
      → Keeps enc key (filter (λ x. not (q x)) xs) (without_all rows ids)
  keeps_less_at q xs rows ids found was =
      record {
        is = ap (λ rs. without_all rs ids) was.is ∙ deleted at order enc key keyed q xs ids was.rise found;
        rise = still_ascends _ _ xs was.rise;
      }

-- keys that are numbers
module _ {X : Type 0} (enc : X → Row) (key : X → ℕ) (keyed : (x : X) → rowid (enc x) ≡ Int (pos (key x))) where
  pub keeps_put : (p : X) (xs : List X) (rows : List Row) → Keeps enc key xs rows
      → Keeps enc key (put_by key p xs) (put_row (enc p) rows)
  keeps_put = keeps_put_at pos int_order enc key keyed

  next_from : (a : ℕ) (xs : List X) → fold (λ _ r. id_in (rowid r) +ℤ pos 1) (pos a) (map enc xs)
      ≡ pos (fold (λ _ x. key x + 1) a xs)
  next_from a [] = refl
  next_from a (x ∷ xs) = ap (λ i. fold (λ _ r. id_in (rowid r) +ℤ pos 1) i (map enc xs))
      (ap (λ v. id_in v +ℤ pos 1) (keyed x)) ∙ next_from (key x + 1) xs

  -- the rowid that is chosen
  pub chosen_key : (xs : List X) (rows : List Row) → rows ≡ map enc xs → next_rowid rows ≡ pos (next_key key xs)
  chosen_key xs rows is = ap next_rowid is ∙ next_from 1 xs

  above_from : (k a : ℕ) (xs : List X) → k < a → AllByRecursion (λ x. k < key x) xs → k < fold (λ _ x. key x + 1) a xs
  above_from k a [] low h = low
  above_from k a (x ∷ xs) low h = above_from k (key x + 1) xs (omega (arith, h.0)) h.1

  below_next : (a : ℕ) (xs : List X) → IsAscending (λ x y. key x < key y) xs
      → AllByRecursion (λ x. key x < fold (λ _ x. key x + 1) a xs) xs
  below_next a [] h = tt
  below_next a (x ∷ xs) h = (above_from (key x) (key x + 1) xs (omega arith) h.0, below_next (key x + 1) xs h.1)

  -- a row whose key is chosen
  pub keeps_last : (new : X) (xs : List X) (rows : List Row) → key new ≡ next_key key xs → Keeps enc key xs rows
      → Keeps enc key (xs ++ new ∷ []) (put_row (enc new) rows)
  keeps_last new xs rows chosen was =
      let below = subst (λ k. AllByRecursion (λ x. key x < k) xs) (sym chosen) (below_next 1 xs was.rise) in
      record {
        is = ap (put_row (enc new)) was.is ∙ put_last enc key keyed new xs below;
        rise = rises_then _ xs new was.rise below;
      }

  pub keeps_less : (q : X → Bool) (xs : List X) (rows : List Row) (ids : List ℤ)
      → IsPermutation (map (λ x. pos (key x)) (filter q xs)) ids → Keeps enc key xs rows
      → Keeps enc key (filter (λ x. not (q x)) xs) (without_all rows ids)
  keeps_less = keeps_less_at pos int_order enc key keyed

-- a table that is not touched
pub keeps_on : {X : Type 0} {enc : X → Row} {key : X → ℕ} (xs : List X) (rows now : List Row) → now ≡ rows
    → Keeps enc key xs rows → Keeps enc key xs now
keeps_on xs rows now same was = record { is = same ∙ was.is; rise = was.rise }
