-- Of two records whose order counts the one with the smaller number stands first in an export.
use Rattle.std.specs.Prelude.{ℕ, ◌≡◌, ◌<◌, nat_lt, true, List, [], ◌∷◌, ◌++◌, Some, refl}
use Rattle.std.specs.List.{flat_map}
use Rattle.std.specs.FinMap.{get, entries}
use Rattle.std.proofs.Common.{ap, ◌∙◌, arith}
use Rattle.std.proofs.lemmas.Bool.Decides.{nat_tests}
use Rattle.record_kinds.specs.Model as model
use Rattle.record_kinds.specs.declared.record.Record.{Record}
use Rattle.record_kinds.specs.declared.record.Record.TheVariants as kind
use Rattle.record_shapes.specs.Lists.{IsOnce}
use Rattle.archive_state.specs.Content.{Records}
use Rattle.gedcom_export.specs.Order.{Numbered, rank, households}
use Rattle.round_trip.specs.Positions.{numbers_in, position_of}
use Rattle.round_trip.specs.OrderLaws.{AreOrdered, OrdersAreKept}
use Rattle.round_trip.proofs.Listed.{has_first, has_flat, has_left, has_right}
use Rattle.round_trip.proofs.Positions.{
  before_ascending,
  before_behind,
  before_by_owner,
  before_in_front,
  before_of_one,
  StandsBefore,
}
use Rattle.round_trip.proofs.Entries.{keys}
use Rattle.round_trip.proofs.Ordered.{order, order_has, order_rises}
use Rattle.round_trip.proofs.Households.{
  all_numbers,
  all_once,
  citation_there,
  cited,
  cited_by,
  cited_rise,
  event_there,
  event_once,
  events,
  events_once,
  events_rise,
  holder,
  is_level_0,
  IsCited,
  of_event,
  of_level_0,
  numbers_are,
  owned_once,
  owners_of,
  with_cited,
  with_owned,
  HasOwners,
}
use Rattle.record_shapes.proofs.Each.{has}

-- after and in front of other numbers
behind_front : (n k : ℕ) (a b : List ℕ) → StandsBefore n k a → StandsBefore n k (a ++ b)
behind_front n k a b h = record {
  first = has_left n a b h.first;
  second = has_left k a b h.second;
  less = before_in_front n k a b h;
}

behind_back : (n k : ℕ) (a b : List ℕ) → IsOnce (a ++ b) → StandsBefore n k b → StandsBefore n k (a ++ b)
behind_back n k a b o h = record {
  first = has_right n a b h.first;
  second = has_right k a b h.second;
  less = before_behind n k a b o h;
}

within_flat : (own : ℕ → List ℕ) (x n k : ℕ) (ks : List ℕ) → IsOnce (flat_map own ks) → has x ks ≡ true
    → StandsBefore n k (own x) → StandsBefore n k (flat_map own ks)
within_flat own x n k ks o h s = record {
  first = has_flat own x n ks h s.first;
  second = has_flat own x k ks h s.second;
  less = before_of_one own x n k ks o h s;
}

module _ (m : Records) where
  abbrev es : List Numbered
  es = entries m

  -- ---- within what a record of level 0 owns
  from_owned : (x n k : ℕ) (r : Record) → get m x ≡ Some r → nat_lt 0 (rank r) ≡ true
      → StandsBefore n k (with_owned es x) → StandsBefore n k (all_numbers m)
  from_owned x n k r g z s = within_flat (with_owned es) x n k (keys (order m)) (all_once m) (order_has m x r g z) s

  module _ (x : ℕ) (r : Record) (g : get m x ≡ Some r) (z : nat_lt 0 (rank r) ≡ true) where
    once : IsOnce (with_owned es x)
    once = owned_once m x (ap (λ o. is_level_0 o) g ∙ z)

    from_events : (n k : ℕ) → StandsBefore n k (flat_map (with_cited es) (events es x))
        → StandsBefore n k (all_numbers m)
    from_events n k s = from_owned x n k r g z
        (behind_back n k (x ∷ []) (flat_map (with_cited es) (events es x) ++ cited es x) once
        (behind_front n k (flat_map (with_cited es) (events es x)) (cited es x) s))

    from_cited : (n k : ℕ) → StandsBefore n k (cited es x) → StandsBefore n k (all_numbers m)
    from_cited n k s = from_owned x n k r g z
        (behind_back n k (x ∷ flat_map (with_cited es) (events es x)) (cited es x) once s)

  -- ---- records of level 0
  level_0_ordered : (n k : ℕ) (r q : Record) → get m n ≡ Some r → get m k ≡ Some q → nat_lt 0 (rank r) ≡ true
      → rank r ≡ rank q → n < k
      → position_of n (all_numbers m) < position_of k (all_numbers m)
  level_0_ordered n k r q g h z e l = before_by_owner (with_owned es) n k n k (keys (order m)) (all_once m)
      (order_rises m n k r q g h z e l) (has_first n _) (has_first k _)

  -- ---- events and citations
  event_before : (n k : ℕ) (e f : model.Event) → get m n ≡ Some (kind.Event e) → get m k ≡ Some (kind.Event f)
      → e.owner ≡ f.owner → n < k → StandsBefore n k (events es e.owner)
  event_before n k e f g h same l =
      let here : has n (events es e.owner) ≡ true = event_there m n e g in
      let there : has k (events es e.owner) ≡ true = ap (λ o. has k (events es o)) same ∙ event_there m k f h in
      record {
        first = here;
        second = there;
        less = before_ascending n k (events es e.owner) (events_rise m e.owner) here there l;
      }

  citation_before : (n k : ℕ) (c d : model.Citation) → get m n ≡ Some (kind.Citation c)
      → get m k ≡ Some (kind.Citation d) → c.owner ≡ d.owner → n < k → StandsBefore n k (cited es c.owner)
  citation_before n k c d g h same l =
      let here : has n (cited es c.owner) ≡ true = citation_there m n c g in
      let there : has k (cited es c.owner) ≡ true = ap (λ o. has k (cited es o)) same ∙ citation_there m k d h in
      record {
        first = here;
        second = there;
        less = before_ascending n k (cited es c.owner) (cited_rise m c.owner) here there l;
      }

  module _ (owners : HasOwners m) where
    events_ordered : (n k : ℕ) (e f : model.Event) → get m n ≡ Some (kind.Event e) → get m k ≡ Some (kind.Event f)
        → e.owner ≡ f.owner → n < k → StandsBefore n k (all_numbers m)
    events_ordered n k e f g h same l =
        let above = holder m e.owner (owners.holders n e g) in
        let before = event_before n k e f g h same l in
        from_events e.owner above.0 above.1 above.2 n k (record {
          first = has_flat (with_cited es) n n (events es e.owner) before.first (has_first n _);
          second = has_flat (with_cited es) k k (events es e.owner) before.second (has_first k _);
          less = before_by_owner (with_cited es) n k n k (events es e.owner) (events_once m e.owner) before
              (has_first n _) (has_first k _);
        })

    citations_ordered : (n k : ℕ) (c d : model.Citation) → get m n ≡ Some (kind.Citation c)
        → get m k ≡ Some (kind.Citation d) → c.owner ≡ d.owner → n < k → IsCited m c.owner
        → StandsBefore n k (all_numbers m)
    citations_ordered n k c d g h same l (of_level_0 r a z) =
        from_cited c.owner r a z n k (citation_before n k c d g h same l)
    citations_ordered n k c d g h same l (of_event e a) =
        let above = holder m e.owner (owners.holders c.owner e a) in
        from_events e.owner above.0 above.1 above.2 n k
        (within_flat (with_cited es) c.owner n k (events es e.owner) (events_once m e.owner)
        (event_there m c.owner e a)
        (behind_back n k (c.owner ∷ []) (cited es c.owner) (event_once m e.owner c.owner (e, a, refl))
        (citation_before n k c d g h same l)))

    ordered : (n k : ℕ) (r q : Record) → get m n ≡ Some r → get m k ≡ Some q → AreOrdered r q → n < k
        → position_of n (all_numbers m) < position_of k (all_numbers m)
    ordered n k (kind.Event e) (kind.Event f) g h a l = (events_ordered n k e f g h a l).less
    ordered n k (kind.Citation c) (kind.Citation d) g h a l =
        (citations_ordered n k c d g h a l (cited_by m c.owner (owners.citers n c g))).less
    ordered n k r q g h a l = by r q g h a
      where
        by : (r q : Record) → get m n ≡ Some r → get m k ≡ Some q → (0 < rank r) × (rank r ≡ rank q)
            → position_of n (all_numbers m) < position_of k (all_numbers m)
        by r q g h a = let up : 0 < rank r = a.0 in let z : nat_lt 0 (rank r) ≡ true = grind (arith, nat_tests) in
            level_0_ordered n k r q g h z a.1 l

pub orders_kept : OrdersAreKept
orders_kept c s n k r q g h a l =
    let m = c.records in
    let less : position_of n (all_numbers m) < position_of k (all_numbers m) =
    ordered m (owners_of c s) n k r q g h a l in
    let one : position_of n (numbers_in (households m)) ≡ position_of n (all_numbers m) =
    ap (position_of n) (numbers_are m) in
    let two : position_of k (numbers_in (households m)) ≡ position_of k (all_numbers m) =
    ap (position_of k) (numbers_are m) in
    omega arith
