-- Each record has in the file the tag and the path that it has in the archive.
use Rattle.std.specs.Prelude.{
  ℕ,
  ◌≡◌,
  ◌+◌,
  ◌<◌,
  ◌≤◌,
  ◌||◌,
  nat_lt,
  Bool,
  true,
  false,
  cond,
  List,
  [],
  ◌∷◌,
  ◌++◌,
  map,
  length,
  Option,
  Some,
  None,
  refl,
  slice_get,
}
use Rattle.std.specs.Option.{unwrap_or}
use Rattle.std.specs.FinMap.{get}
use Rattle.std.proofs.Common.{ap, sym, ◌∙◌, append-nil, subst, arith, eqb, add-one}
use Rattle.std.proofs.lemmas.Bool.{eqb-true}
use Rattle.std.proofs.lemmas.Bool.Decides.{nat_tests}
use Rattle.record_kinds.specs.Model as model
use Rattle.record_kinds.specs.declared.record.Record.{Record}
use Rattle.record_kinds.specs.declared.record.Record.TheVariants as kind
use Rattle.record_shapes.specs.Lists.{IsOnce}
use Rattle.archive_state.specs.Content.{Records}
use Rattle.archive_state.specs.Known.{known_before, path_by, path_of, path_with}
use Rattle.import_definitions.specs.Positions.{path_at}
use Rattle.round_trip.specs.Positions.{position_of}
use Rattle.round_trip.proofs.Listed.{once_not_front, has_first}
use Rattle.round_trip.proofs.Positions.{get_next, position_behind, position_in_front, position_low}
use Rattle.round_trip.proofs.Entries.{keys}
use Rattle.round_trip.proofs.Ordered.{order, order_once, order_rises}
use Rattle.round_trip.proofs.Nodes.{pos, positions_are}
use Rattle.record_shapes.proofs.Each.{has}

-- what stands at the position of a number, in front of others
pub at_front : {A : Type 0} (f : ℕ → A) (j : ℕ) (as_ bs : List ℕ)
    → slice_get (map f as_) (position_of j (as_ ++ bs)) ≡ cond (has j as_) (Some (f j)) None
at_front f j [] bs = refl
at_front f j (k ∷ as_) bs =
    elim (eqb k j) as (λ b. eqb k j ≡ b → slice_get (f k ∷ map f as_) (cond b 0 (position_of j (as_ ++ bs) + 1))
    ≡ cond (b || has j as_) (Some (f j)) None) [
      | true ↦ λ e. ap (λ i. Some (f i)) (eqb-true k j e)
      | false ↦ λ e. get_next (position_of j (as_ ++ bs)) (f k) (map f as_) ∙ at_front f j as_ bs
    ] refl

pub at_all : {A : Type 0} (f : ℕ → A) (j : ℕ) (ks : List ℕ) → slice_get (map f ks) (position_of j ks)
    ≡ cond (has j ks) (Some (f j)) None
at_all f j ks = ap (λ us. slice_get (map f ks) (position_of j us)) (sym (append-nil ks)) ∙ at_front f j ks []

-- ---- paths of what is no place
module _ (m : Records) where
  abbrev pub IsNoPlace : Option Record → Type 0
  IsNoPlace (Some (kind.Place p)) = ⊥
  IsNoPlace _ = Unit {0}

  pub path_of_none : (n : ℕ) → IsNoPlace (get m n) → path_of m n ≡ None
  unfolding path_of
  path_of_none n h = ap (λ s. path_by s m n) (add-one n) ∙ by (get m n) h
    where
      by : (o : Option Record) → IsNoPlace o → path_with n (path_by n m) o ≡ None
      by None x = refl
      by (Some (kind.Place p)) x = absurd x
      by (Some (kind.Repo p)) x = refl
      by (Some (kind.Source p)) x = refl
      by (Some (kind.Person p)) x = refl
      by (Some (kind.Family p)) x = refl
      by (Some (kind.Citation p)) x = refl
      by (Some (kind.Event p)) x = refl
      by (Some (kind.Entry p)) x = refl
      by (Some (kind.Other p)) x = refl

  -- the path is the same whether it is asked for or not, where a test is right of places
  pub path_if : (n : ℕ) (a b : Bool) → ((p : model.Place) → get m n ≡ Some (kind.Place p) → a ≡ b)
      → cond a (path_of m n) None ≡ cond b (path_of m n) None
  path_if n a b f = by (get m n) refl
    where
      either : (z : Bool) → path_of m n ≡ None → cond z (path_of m n) None ≡ None
      either true e = e
      either false e = refl

      none : IsNoPlace (get m n) → cond a (path_of m n) None ≡ cond b (path_of m n) None
      none h = either a (path_of_none n h) ∙ sym (either b (path_of_none n h))

      by : (o : Option Record) → get m n ≡ o → cond a (path_of m n) None ≡ cond b (path_of m n) None
      by (Some (kind.Place p)) g = ap (λ z. cond z (path_of m n) None) (f p g)
      by None g = none (subst IsNoPlace (sym g) tt)
      by (Some (kind.Repo p)) g = none (subst IsNoPlace (sym g) tt)
      by (Some (kind.Source p)) g = none (subst IsNoPlace (sym g) tt)
      by (Some (kind.Person p)) g = none (subst IsNoPlace (sym g) tt)
      by (Some (kind.Family p)) g = none (subst IsNoPlace (sym g) tt)
      by (Some (kind.Citation p)) g = none (subst IsNoPlace (sym g) tt)
      by (Some (kind.Event p)) g = none (subst IsNoPlace (sym g) tt)
      by (Some (kind.Entry p)) g = none (subst IsNoPlace (sym g) tt)
      by (Some (kind.Other p)) g = none (subst IsNoPlace (sym g) tt)

  -- ---- before a place, exactly the places with smaller numbers stand
  abbrev paths_of : List ℕ → List (Option (List ℕ))
  paths_of ks = map (path_of m) ks

  module _ (done rest : List ℕ) (k : ℕ) (p : model.Place) (all : done ++ k ∷ rest ≡ keys (order m))
      (here : get m k ≡ Some (kind.Place p)) where
    once : IsOnce (done ++ k ∷ rest)
    once = subst IsOnce (sym all) (order_once m)

    at_end : position_of k (keys (order m)) ≡ length done
    at_end =
        let behind : position_of k (done ++ k ∷ rest) ≡ length done + position_of k (k ∷ rest) =
        position_behind k done (k ∷ rest) (once_not_front k done (k ∷ rest) once (has_first k rest)) in
        let first : position_of k (k ∷ rest) ≡ 0 = grind (arith, nat_tests) in
        ap (position_of k) (sym all) ∙ (let e : position_of k (done ++ k ∷ rest) ≡ length done = omega arith in e)

    in_front : (j : ℕ) → has j done ≡ true → position_of j (keys (order m)) < length done
    in_front j h =
        let one : position_of j (done ++ k ∷ rest) ≡ position_of j done = position_in_front j done (k ∷ rest) h in
        let low : position_of j done < length done = position_low j done h in
        let same : position_of j (keys (order m)) ≡ position_of j (done ++ k ∷ rest) = ap (position_of j) (sym all) in
        omega arith

    at_back : (j : ℕ) → has j done ≡ false → length done ≤ position_of j (keys (order m))
    at_back j h =
        let one : position_of j (done ++ k ∷ rest) ≡ length done + position_of j (k ∷ rest) =
        position_behind j done (k ∷ rest) h in
        let same : position_of j (keys (order m)) ≡ position_of j (done ++ k ∷ rest) = ap (position_of j) (sym all) in
        omega arith

    less_places : (i j : ℕ) (p q : model.Place) → get m i ≡ Some (kind.Place p) → get m j ≡ Some (kind.Place q) → i < j
        → position_of i (keys (order m)) < position_of j (keys (order m))
    less_places i j p q g h l = (order_rises m i j (kind.Place p) (kind.Place q) g h refl refl l).less

    before_is : (j : ℕ) (q : model.Place) → get m j ≡ Some (kind.Place q) → has j done ≡ nat_lt j k
    before_is j q g = by (has j done) (nat_lt j k) refl refl
      where
        by : (a b : Bool) → has j done ≡ a → nat_lt j k ≡ b → a ≡ b
        by true true x y = refl
        by false false x y = refl
        by true false x y =
            let end : position_of k (keys (order m)) ≡ length done = at_end in
            let front : position_of j (keys (order m)) < length done = in_front j x in
            let not_less : k ≤ j = grind (arith, nat_tests) in
            absurd (elim (eqb k j) as (λ b. eqb k j ≡ b → ⊥) [
              | true ↦ λ e. let same : k ≡ j = eqb-true k j e in
                  let pk : position_of k (keys (order m)) ≡ position_of j (keys (order m)) =
                  ap (λ i. position_of i (keys (order m))) same in omega arith
              | false ↦ λ e. let other : k < j = grind (arith, nat_tests) in
                  let up : position_of k (keys (order m)) < position_of j (keys (order m)) =
                  less_places k j p q here g other in omega arith
            ] refl)
        by false true x y =
            let end : position_of k (keys (order m)) ≡ length done = at_end in
            let back : length done ≤ position_of j (keys (order m)) = at_back j x in
            let less : j < k = grind (arith, nat_tests) in
            let up : position_of j (keys (order m)) < position_of k (keys (order m)) =
            less_places j k q p g here less in
            absurd (omega arith)

    pub path_before : (j : ℕ) → path_at (paths_of done) (pos m j) ≡ (known_before m k).path j
    path_before j =
        ap (λ i. path_at (paths_of done) i) (positions_are m j ∙ ap (position_of j) (sym all))
        ∙ ap (λ o. unwrap_or o None) (at_front (path_of m) j done (k ∷ rest))
        ∙ by (has j done) ∙ path_if j (has j done) (nat_lt j k) (λ q g. before_is j q g)
      where
        by : (b : Bool) → unwrap_or (cond b (Some (path_of m j)) None) None ≡ cond b (path_of m j) None
        by true = refl
        by false = refl
