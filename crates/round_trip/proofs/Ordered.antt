-- The records of level 0 in the order of an export: each of the archive is there, and once.
use Rattle.std.specs.Prelude.{ℕ, ◌≡◌, ◌<◌, ◌==◌, nat_lt, true, List, [], ◌∷◌, ◌++◌, Option, Some, None, refl}
use Rattle.std.specs.List.{flat_map}
use Rattle.std.specs.FinMap.{get, entries}
use Rattle.std.proofs.Common.{ap, sym, ◌∙◌, subst}
use Rattle.std.proofs.lemmas.Bool.{eqb-true}
use Rattle.std.proofs.lemmas.List.{map-append}
use Rattle.record_kinds.specs.declared.record.Record.{Record}
use Rattle.record_kinds.specs.declared.record.Record.TheVariants as kind
use Rattle.record_shapes.specs.Lists.{EachOf, IsOnce}
use Rattle.archive_state.specs.Content.{Records}
use Rattle.gedcom_export.specs.Order.{Numbered, rank, of_rank, in_order}
use Rattle.round_trip.proofs.Listed.{has_flat, each_filter, once_flat}
use Rattle.round_trip.proofs.Positions.{before_ascending, before_of_one, StandsBefore}
use Rattle.round_trip.specs.Positions.{position_of}
use Rattle.round_trip.proofs.Entries.{keys, Stands, entries_stand, some_have, some_rise}
use Rattle.record_shapes.proofs.Each.{each_more, has, each_flat, each_mapped, once_ascending}
use Rattle.list_laws.proofs.Numbers.{same_self}
use Rattle.list_laws.proofs.Booleans.{true_not_false}

abbrev pub ranks : List ℕ
ranks = 1 ∷ 2 ∷ 3 ∷ 4 ∷ 5 ∷ 6 ∷ 7 ∷ []

keys_flat : {A X : Type 0} (g : A → List (ℕ × X)) (ks : List A) → keys (flat_map g ks) ≡ flat_map (λ k. keys (g k)) ks
keys_flat {A} {X} g [] = refl
keys_flat {A} {X} g (k ∷ ks) = map-append (λ (e : ℕ × X). e.0) (g k) (flat_map g ks)
    ∙ ap (λ (us : List ℕ). keys (g k) ++ us) (keys_flat g ks)

module _ (m : Records) where
  abbrev pub order : List Numbered
  order = in_order (entries m)

  -- the numbers of one rank
  abbrev pub ranked : ℕ → List ℕ
  ranked k = keys (of_rank (entries m) k)

  pub order_ranked : keys order ≡ flat_map ranked ranks
  order_ranked = keys_flat (of_rank (entries m)) ranks

  -- a record of level 0 stands in the archive
  abbrev pub StandsAt0 : Numbered → Type 0
  StandsAt0 e = Stands m e × (nat_lt 0 (rank e.1) ≡ true)

  rank_stands : (k : ℕ) → nat_lt 0 k ≡ true → EachOf StandsAt0 (of_rank (entries m) k)
  rank_stands k h = each_more (λ e. Stands m e × ((rank e.1 == k) ≡ true)) StandsAt0
      (λ e g. (g.0, ap (λ j. nat_lt 0 j) (eqb-true (rank e.1) k g.1) ∙ h)) (of_rank (entries m) k)
      (each_filter (Stands m) (λ (e : Numbered). rank e.1 == k) (entries m) (entries_stand m))

  pub order_stands : EachOf StandsAt0 order
  order_stands = each_flat StandsAt0 (of_rank (entries m)) ranks
      (each_more (λ k. nat_lt 0 k ≡ true) (λ k. EachOf StandsAt0 (of_rank (entries m) k)) rank_stands ranks
      (refl, (refl, (refl, (refl, (refl, (refl, (refl, tt))))))))

  -- ---- each is there
  rank_among : (r : Record) → nat_lt 0 (rank r) ≡ true → has (rank r) ranks ≡ true
  rank_among (kind.Event e) h = absurd (true_not_false (sym h))
  rank_among (kind.Citation e) h = absurd (true_not_false (sym h))
  rank_among (kind.Place p) h = refl
  rank_among (kind.Repo p) h = refl
  rank_among (kind.Source p) h = refl
  rank_among (kind.Person p) h = refl
  rank_among (kind.Family p) h = refl
  rank_among (kind.Entry p) h = refl
  rank_among (kind.Other p) h = refl

  ranked_has : (n : ℕ) (r : Record) → get m n ≡ Some r → has n (ranked (rank r)) ≡ true
  ranked_has n r g = some_have m n r (λ (e : Numbered). rank e.1 == rank r) g
      (λ e same. ap (λ (y : Record). rank y == rank r) same ∙ same_self (rank r))

  pub order_has : (n : ℕ) (r : Record) → get m n ≡ Some r → nat_lt 0 (rank r) ≡ true → has n (keys order) ≡ true
  order_has n r g h = ap (has n) order_ranked ∙ has_flat ranked (rank r) n ranks (rank_among r h) (ranked_has n r g)

  -- ---- and once
  abbrev rank_in : Option Record → ℕ
  rank_in None = 0
  rank_in (Some r) = rank r

  belongs : (k : ℕ) → IsOnce (ranked k) × EachOf (λ n. rank_in (get m n) ≡ k) (ranked k)
  belongs k = (
    once_ascending (ranked k) (some_rise m (λ (e : Numbered). rank e.1 == k)),
    each_mapped (λ n. rank_in (get m n) ≡ k) (λ (e : Numbered). e.0) (of_rank (entries m) k)
        (each_more (λ e. Stands m e × ((rank e.1 == k) ≡ true)) (λ e. rank_in (get m e.0) ≡ k)
        (λ e g. ap rank_in g.0 ∙ eqb-true (rank e.1) k g.1) (of_rank (entries m) k)
        (each_filter (Stands m) (λ (e : Numbered). rank e.1 == k) (entries m) (entries_stand m))),
  )

  ranks_once : IsOnce (flat_map ranked ranks)
  ranks_once = once_flat (λ n. rank_in (get m n)) ranked ranks
      (refl, (refl, (refl, (refl, (refl, (refl, (refl, tt)))))))
      (belongs 1, (belongs 2, (belongs 3, (belongs 4, (belongs 5, (belongs 6, (belongs 7, tt)))))))

  pub order_once : IsOnce (keys order)
  order_once = subst IsOnce (sym order_ranked) ranks_once

  -- ---- those of one kind by number
  pub order_rises : (n k : ℕ) (r q : Record) → get m n ≡ Some r → get m k ≡ Some q → nat_lt 0 (rank r) ≡ true
      → rank r ≡ rank q → n < k → StandsBefore n k (keys order)
  order_rises n k r q g h z e l =
      let here : has n (ranked (rank r)) ≡ true = ranked_has n r g in
      let there : has k (ranked (rank r)) ≡ true = ap (λ j. has k (ranked j)) e ∙ ranked_has k q h in
      record {
        first = order_has n r g z;
        second = order_has k q h (ap (nat_lt 0) (sym e) ∙ z);
        less = subst (λ ks. position_of n ks < position_of k ks) (sym order_ranked)
            (before_of_one ranked (rank r) n k ranks ranks_once (rank_among r z)
            (record {
              first = here;
              second = there;
              less = before_ascending n k (ranked (rank r)) (some_rise m (λ (x : Numbered). rank x.1 == rank r)) here
                  there l;
            }));
      }
