-- The positions of numbers on lists, and which of two stands first.
use Rattle.std.specs.Prelude.{
  ℕ,
  ◌≡◌,
  ◌+◌,
  ◌<◌,
  ◌==◌,
  ◌||◌,
  Bool,
  true,
  false,
  cond,
  List,
  [],
  ◌∷◌,
  ◌++◌,
  length,
  slice_get,
  Some,
  None,
  refl,
}
use Rattle.std.specs.List.{flat_map}
use Rattle.std.proofs.Common.{ap, sym, subst, ◌∙◌, arith, eqb, add-one}
use Rattle.std.proofs.lemmas.Bool.{eqb-true}
use Rattle.std.proofs.lemmas.Bool.Decides.{nat_tests}
use Rattle.record_shapes.specs.Lists.{EachOf, IsOnce, Ascends}
use Rattle.round_trip.specs.Positions.{position_of}
use Rattle.round_trip.proofs.Listed.{has_flat, once_not_front}
use Rattle.record_shapes.proofs.Each.{has, once_behind}
use Rattle.list_laws.proofs.Booleans.{neither, true_not_false}

-- ---- what stands at a position
pub get_next : {A : Type 0} (k : ℕ) (a : A) (xs : List A) → slice_get (a ∷ xs) (k + 1) ≡ slice_get xs k
get_next k a xs = ap (slice_get (a ∷ xs)) (add-one k)

pub number_at : (n : ℕ) (ks : List ℕ) → slice_get ks (position_of n ks) ≡ cond (has n ks) (Some n) None
number_at n [] = refl
number_at n (k ∷ ks) =
    elim (eqb k n) as (λ b. eqb k n ≡ b → slice_get (k ∷ ks) (cond b 0 (position_of n ks + 1))
    ≡ cond (b || has n ks) (Some n) None) [
      | true ↦ λ e. ap (λ j. Some j) (eqb-true k n e)
      | false ↦ λ e. get_next (position_of n ks) k ks ∙ number_at n ks
    ] refl

-- a number that is there has no other's position
pub same_position : (n k : ℕ) (ks : List ℕ) → has n ks ≡ true → position_of k ks ≡ position_of n ks → k ≡ n
same_position n k ks h e =
    let here : Some n ≡ cond (has k ks) (Some k) None =
    ap (λ b. cond b (Some n) None) (sym h) ∙ sym (number_at n ks) ∙ ap (slice_get ks) (sym e) ∙ number_at k ks in
    elim (has k ks) as (λ b. Some n ≡ cond b (Some k) None → k ≡ n) [
      | true ↦ λ g. cc
      | false ↦ λ g. absurd cc
    ] here

-- ---- positions on lists one after the other
pub position_in_front : (n : ℕ) (a b : List ℕ) → has n a ≡ true → position_of n (a ++ b) ≡ position_of n a
position_in_front n [] b h = absurd cc
position_in_front n (k ∷ a) b h =
    elim (k == n) as (λ c. (c || has n a) ≡ true → cond c 0 (position_of n (a ++ b) + 1)
    ≡ cond c 0 (position_of n a + 1)) [
      | true ↦ λ g. refl
      | false ↦ λ g. ap (λ i. i + 1) (position_in_front n a b g)
    ] h

pub position_low : (n : ℕ) (a : List ℕ) → has n a ≡ true → position_of n a < length a
position_low n [] h = absurd cc
position_low n (k ∷ a) h =
    elim (k == n) as (λ c. (c || has n a) ≡ true → cond c 0 (position_of n a + 1) < length (k ∷ a)) [
      | true ↦ λ g. omega arith
      | false ↦ λ g. let l : position_of n a < length a = position_low n a g in omega arith
    ] h

pub position_behind : (n : ℕ) (a b : List ℕ) → has n a ≡ false → position_of n (a ++ b) ≡ length a + position_of n b
position_behind n [] b h = let e : position_of n b ≡ 0 + position_of n b = omega arith in e
position_behind n (k ∷ a) b h =
    let both : ((k == n) ≡ false) × (has n a ≡ false) = neither (k == n) (has n a) h in
    let rest : position_of n (a ++ b) ≡ length a + position_of n b = position_behind n a b both.1 in
    ap (λ c. cond c 0 (position_of n (a ++ b) + 1)) both.0
    ∙ (let e : position_of n (a ++ b) + 1 ≡ length (k ∷ a) + position_of n b = omega arith in e)

-- ---- one number stands before another
pub record StandsBefore (n k : ℕ) (ks : List ℕ) : Type 0 where
  pub first : has n ks ≡ true
  pub second : has k ks ≡ true
  pub less : position_of n ks < position_of k ks

pub before_in_front : (n k : ℕ) (a b : List ℕ) → StandsBefore n k a → position_of n (a ++ b) < position_of k (a ++ b)
before_in_front n k a b h =
    let one = position_in_front n a b h.first in
    let two = position_in_front k a b h.second in
    let less : position_of n a < position_of k a = h.less in
    omega arith

pub before_behind : (n k : ℕ) (a b : List ℕ) → IsOnce (a ++ b) → StandsBefore n k b
    → position_of n (a ++ b) < position_of k (a ++ b)
before_behind n k a b o h =
    let one = position_behind n a b (once_not_front n a b o h.first) in
    let two = position_behind k a b (once_not_front k a b o h.second) in
    let less : position_of n b < position_of k b = h.less in
    omega arith

pub before_ascending : (n k : ℕ) (ks : List ℕ) → Ascends ks → has n ks ≡ true → has k ks ≡ true → n < k
    → position_of n ks < position_of k ks
before_ascending n k [] a h g l = absurd cc
before_ascending n k (j ∷ ks) a h g l =
    elim (eqb j n) as (λ b. eqb j n ≡ b → (b || has n ks) ≡ true
    → cond b 0 (position_of n ks + 1) < cond (j == k) 0 (position_of k ks + 1)) [
      | true ↦ λ e x.
          let same : j ≡ n = eqb-true j n e in
          let apart : (j == k) ≡ false = grind (arith, nat_tests) in
          let less : 0 < position_of k ks + 1 = omega arith in
          rw apart less
      | false ↦ λ e x. elim (eqb j k) as (λ c. eqb j k ≡ c → (c || has k ks) ≡ true
          → position_of n ks + 1 < cond c 0 (position_of k ks + 1)) [
            | true ↦ λ i y. absurd (above_not n k j ks a.0 x (eqb-true j k i) l)
            | false ↦ λ i y. let rest : position_of n ks < position_of k ks = before_ascending n k ks a.1 x y l in
                omega arith
          ] refl g
    ] refl h
  where
    above_not : (n k j : ℕ) (ks : List ℕ) → EachOf (λ i. j < i) ks → has n ks ≡ true → j ≡ k → n < k → ⊥
    above_not n k j [] a h e l = absurd cc
    above_not n k j (i ∷ ks) a h e l =
        elim (eqb i n) as (λ b. eqb i n ≡ b → (b || has n ks) ≡ true → ⊥) [
          | true ↦ λ x y. let same : i ≡ n = eqb-true i n x in let up : j < i = a.0 in omega arith
          | false ↦ λ x y. above_not n k j ks a.1 y e l
        ] refl h

-- ---- on the lists of what each owns
module _ (own : ℕ → List ℕ) where
  -- what is owned stands as its owners do
  pub before_by_owner : (x y n k : ℕ) (ks : List ℕ) → IsOnce (flat_map own ks) → StandsBefore x y ks
      → has n (own x) ≡ true → has k (own y) ≡ true
      → position_of n (flat_map own ks) < position_of k (flat_map own ks)
  before_by_owner x y n k [] o h a b = absurd (true_not_false (sym h.first))
  before_by_owner x y n k (j ∷ ks) o h a b =
      elim (eqb j x) as (λ c. eqb j x ≡ c → (c || has x ks) ≡ true
      → cond c 0 (position_of x ks + 1) < cond (j == y) 0 (position_of y ks + 1)
      → position_of n (own j ++ flat_map own ks) < position_of k (own j ++ flat_map own ks)) [
        | true ↦ λ e f g. by_first e (eqb j y) refl h.second g
        | false ↦ λ e f g. by_rest (λ r. before_by_owner x y n k ks (once_behind (own j) (flat_map own ks) o) r a b) f
            (eqb j y) refl h.second g
      ] refl h.first h.less
    where
      by_first : eqb j x ≡ true → (c : Bool) → eqb j y ≡ c → (c || has y ks) ≡ true
          → 0 < cond c 0 (position_of y ks + 1)
          → position_of n (own j ++ flat_map own ks) < position_of k (own j ++ flat_map own ks)
      by_first e true i s g = absurd (omega arith)
      by_first e false i s g =
          let here : has n (own j) ≡ true = ap (λ z. has n (own z)) (eqb-true j x e) ∙ a in
          let one : position_of n (own j ++ flat_map own ks)
          ≡ position_of n (own j) = position_in_front n (own j) (flat_map own ks) here in
          let low : position_of n (own j) < length (own j) = position_low n (own j) here in
          let two = position_behind k (own j) (flat_map own ks)
          (once_not_front k (own j) (flat_map own ks) o (has_flat own y k ks s b)) in
          omega arith

      by_rest : (StandsBefore x y ks → position_of n (flat_map own ks) < position_of k (flat_map own ks))
          → has x ks ≡ true → (c : Bool) → eqb j y ≡ c → (c || has y ks) ≡ true
          → position_of x ks + 1 < cond c 0 (position_of y ks + 1)
          → position_of n (own j ++ flat_map own ks) < position_of k (own j ++ flat_map own ks)
      by_rest again f true i s g = absurd (omega arith)
      by_rest again f false i s g = before_behind n k (own j) (flat_map own ks) o (record {
        first = has_flat own x n ks f a;
        second = has_flat own y k ks s b;
        less = again (record { first = f; second = s; less = omega arith });
      })

  -- what one owns stands as on its own list
  pub before_of_one : (x n k : ℕ) (ks : List ℕ) → IsOnce (flat_map own ks) → has x ks ≡ true
      → StandsBefore n k (own x)
      → position_of n (flat_map own ks) < position_of k (flat_map own ks)
  before_of_one x n k [] o h s = absurd cc
  before_of_one x n k (j ∷ ks) o h s =
      elim (eqb j x) as (λ c. eqb j x ≡ c → (c || has x ks) ≡ true
      → position_of n (own j ++ flat_map own ks) < position_of k (own j ++ flat_map own ks)) [
        | true ↦ λ e f. before_in_front n k (own j) (flat_map own ks)
            (subst (λ z. StandsBefore n k (own z)) (sym (eqb-true j x e)) s)
        | false ↦ λ e f. before_behind n k (own j) (flat_map own ks) o (record {
          first = has_flat own x n ks f s.first;
          second = has_flat own x k ks f s.second;
          less = before_of_one x n k ks (once_behind (own j) (flat_map own ks) o) f s;
        })
      ] refl h
