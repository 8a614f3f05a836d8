-- An empty archive that gets the records of an export's batch holds the records, each once.
use Rattle.std.specs.Prelude.{
  ℕ,
  ◌≡◌,
  ◌+◌,
  ◌==◌,
  ◌||◌,
  Bool,
  true,
  false,
  cond,
  List,
  [],
  ◌∷◌,
  ◌++◌,
  map,
  Option,
  Some,
  None,
  refl,
}
use Rattle.std.specs.List.{filter, flat_map}
use Rattle.std.specs.FinMap.{get, entries, empty, insert, get-empty, get-insert}
use Rattle.std.specs.Ordering.{nat_cmp}
use Rattle.std.specs.Cmp.{nat_cmp_total}
use Rattle.std.proofs.Common.{ap, sym, ◌∙◌, subst, arith, eqb}
use Rattle.std.proofs.lemmas.Bool.{eqb-true}
use Rattle.std.proofs.lemmas.List.{map-append}
use Rattle.stored_lines.specs.Tree.{Tree, node, none, forest_of, flat, flat_all}
use Rattle.record_kinds.specs.declared.record.Record.{Record}
use Rattle.record_shapes.specs.Lists.{EachOf, IsOnce}
use Rattle.archive_state.specs.Applied.{with_puts}
use Rattle.archive_state.specs.Content.{Records}
use Rattle.archive_state.specs.Merging.{record_with}
use Rattle.archive_state.specs.declared.changes.Numbered as put
use Rattle.gedcom_export.specs.Order.{Numbered, citations_of, household, households, is_citation_of, is_event_of}
use Rattle.round_trip.specs.Positions.{new_number, numbers_in, position_of}
use Rattle.round_trip.proofs.Entries.{entries_stand, Stands, ties}
use Rattle.round_trip.proofs.Listed.{each_filter}
use Rattle.round_trip.proofs.Ordered.{order, order_stands, StandsAt0}
use Rattle.round_trip.proofs.Positions.{same_position}
use Rattle.round_trip.specs.Same.{IsCarriedBy}
use Rattle.record_shapes.proofs.Each.{each_both, each_more, has}
use Rattle.list_laws.proofs.Booleans.{neither, true_not_false}
use Rattle.list_laws.proofs.Numbers.{same_self}

-- ---- records put into a map
abbrev pub numbers_of : List put.Numbered → List ℕ
numbers_of es = map (λ (e : put.Numbered). e.number) es

abbrev look : ℕ → List put.Numbered → Option Record
look k [] = None
look k (e ∷ es) = cond (e.number == k) (Some e.«record») (look k es)

look_none : (k : ℕ) (es : List put.Numbered) → has k (numbers_of es) ≡ false → look k es ≡ None
look_none k [] h = refl
look_none k (e ∷ es) h =
    let both : ((e.number == k) ≡ false) × (has k (numbers_of es) ≡ false) =
    neither (e.number == k) (has k (numbers_of es)) h in
    ap (λ b. cond b (Some e.«record») (look k es)) both.0 ∙ look_none k es both.1

abbrev or_in : Option Record → Option Record → Option Record
or_in None o = o
or_in (Some r) o = Some r

get_put : (es : List put.Numbered) (m : Records) (k : ℕ) → IsOnce (numbers_of es)
    → get (with_puts m es) k ≡ or_in (look k es) (get m k)
get_put [] m k h = refl
get_put (e ∷ es) m k h =
    get_put es (insert m e.number e.«record») k h.1
    ∙ ap (or_in (look k es)) (get-insert nat_cmp_total m e.number e.«record» k
    ∙ ap (λ b. cond b (Some e.«record») (get m k)) (ties k e.number))
    ∙ elim (eqb e.number k)
    as (λ b. eqb e.number k ≡ b → or_in (look k es) (cond b (Some e.«record») (get m k))
    ≡ or_in (cond b (Some e.«record») (look k es)) (get m k)) [
      | true ↦ λ i. ap (λ o. or_in o (Some e.«record»))
          (look_none k es (ap (λ j. has j (numbers_of es)) (sym (eqb-true e.number k i)) ∙ h.0))
      | false ↦ λ i. refl
    ] refl

or_none : (o : Option Record) → or_in o None ≡ o
or_none None = refl
or_none (Some r) = refl

get_made : (es : List put.Numbered) (k : ℕ) → IsOnce (numbers_of es) → get (with_puts empty es) k ≡ look k es
get_made es k h = get_put es empty k h ∙ ap (or_in (look k es)) (get-empty nat_cmp k) ∙ or_none (look k es)

map_flat : {A : Type 0} (f : ℕ × Numbered → A) (ts : List (Tree Numbered))
    → map f (flat_map (flat 0) ts) ≡ flat_map (λ t. map f (flat 0 t)) ts
map_flat f [] = refl
map_flat f (t ∷ ts) = map-append f (flat 0 t) (flat_map (flat 0) ts) ∙ ap (λ us. map f (flat 0 t) ++ us) (map_flat f ts)

-- ---- all records in the order of the lines
module _ (m : Records) where
  abbrev es : List Numbered
  es = entries m

  abbrev pub Here : ℕ × Numbered → Type 0
  Here p = Stands m p.1

  leaves_here : (d : ℕ) (xs : List Numbered) → EachOf (Stands m) xs
      → EachOf Here (flat_all d (forest_of (map (λ (e : Numbered). node e none) xs)))
  leaves_here d [] h = tt
  leaves_here d (x ∷ xs) h = (h.0, leaves_here d xs h.1)

  some_stand : (q : Numbered → Bool) → EachOf (Stands m) (filter q es)
  some_stand q = each_more (λ e. Stands m e × (q e ≡ true)) (Stands m) (λ e h. h.0) (filter q es)
      (each_filter (Stands m) q es (entries_stand m))

  branches_here : (d : ℕ) (xs : List Numbered) (ts : List (Tree Numbered)) → EachOf (Stands m) xs
      → EachOf Here (flat_all d (forest_of ts))
      → EachOf Here (flat_all d (forest_of (map (λ (e : Numbered). node e (forest_of (citations_of es e.0))) xs ++ ts)))
  branches_here d [] ts h l = l
  branches_here d (x ∷ xs) ts h l = (
    h.0,
    each_both Here (flat_all (d + 1) (forest_of (citations_of es x.0)))
        (flat_all d (forest_of (map (λ (e : Numbered). node e (forest_of (citations_of es e.0))) xs ++ ts)))
        (leaves_here (d + 1) (filter (λ (e : Numbered). is_citation_of x.0 e.1) es)
        (some_stand (λ (e : Numbered). is_citation_of x.0 e.1))) (branches_here d xs ts h.1 l),
  )

  all_here : (xs : List Numbered) → EachOf (Stands m) xs → EachOf Here (flat_map (flat 0) (map (household es) xs))
  all_here [] h = tt
  all_here (x ∷ xs) h = each_both Here (flat 0 (household es x)) (flat_map (flat 0) (map (household es) xs)) (
    h.0,
    branches_here 1 (filter (λ (e : Numbered). is_event_of x.0 e.1) es) (citations_of es x.0)
        (some_stand (λ (e : Numbered). is_event_of x.0 e.1))
        (leaves_here 1 (filter (λ (e : Numbered). is_citation_of x.0 e.1) es)
        (some_stand (λ (e : Numbered). is_citation_of x.0 e.1))),
  )
      (all_here xs h.1)

  abbrev pub in_lines : List (ℕ × Numbered)
  in_lines = flat_map (flat 0) (households m)

  pub here : EachOf Here in_lines
  here = all_here (order m) (each_more (StandsAt0 m) (Stands m) (λ e h. h.0) (order m) (order_stands m))

  abbrev numbers : List ℕ
  numbers = numbers_in (households m)

  abbrev f : ℕ → ℕ
  f = new_number m

  abbrev made_one : ℕ × Numbered → put.Numbered
  made_one p = record { number = f p.1.0; «record» = record_with f p.1.1 }

  abbrev number_on : ℕ × Numbered → ℕ
  number_on p = p.1.0

  pub numbers_are : map number_on in_lines ≡ numbers
  numbers_are = map_flat number_on (households m)

  module _ (once : IsOnce numbers) (there : (n : ℕ) (r : Record) → get m n ≡ Some r → has n numbers ≡ true) where
    one_number : (n k : ℕ) → has n numbers ≡ true → f k ≡ f n → k ≡ n
    one_number n k h e = same_position n k numbers h
        (let g : position_of k numbers + 1 ≡ position_of n numbers + 1 = e in
        let z : position_of k numbers ≡ position_of n numbers = omega arith in z)

    -- the new numbers are apart too
    none_new : (n : ℕ) (ks : List ℕ) → has n numbers ≡ true → has n ks ≡ false → has (f n) (map f ks) ≡ false
    none_new n [] h g = refl
    none_new n (k ∷ ks) h g =
        let both : ((k == n) ≡ false) × (has n ks ≡ false) = neither (k == n) (has n ks) g in
        elim (eqb (f k) (f n)) as (λ b. eqb (f k) (f n) ≡ b → (b || has (f n) (map f ks)) ≡ false) [
          | true ↦ λ i. let same : k ≡ n = one_number n k h (eqb-true (f k) (f n) i) in
              absurd (true_not_false (sym (ap (λ q. q == n) same ∙ same_self n) ∙ both.0))
          | false ↦ λ i. none_new n ks h both.1
        ] refl

    once_new : (ps : List (ℕ × Numbered)) → EachOf Here ps → IsOnce (map number_on ps)
        → IsOnce (numbers_of (map made_one ps))
    once_new [] h o = tt
    once_new (p ∷ ps) h o = (
      subst (λ ks. has (f p.1.0) ks ≡ false) (sym (same ps))
          (none_new p.1.0 (map number_on ps) (there p.1.0 p.1.1 h.0) o.0),
      once_new ps h.1 o.1,
    )
      where
        same : (qs : List (ℕ × Numbered)) → numbers_of (map made_one qs) ≡ map f (map number_on qs)
        same [] = refl
        same (q ∷ qs) = ap (λ ks. f q.1.0 ∷ ks) (same qs)

    look_new : (n : ℕ) (r : Record) (ps : List (ℕ × Numbered)) → get m n ≡ Some r → EachOf Here ps
        → has n (map number_on ps) ≡ true → look (f n) (map made_one ps) ≡ Some (record_with f r)
    look_new n r [] g h k = absurd cc
    look_new n r (p ∷ ps) g h k =
        elim (eqb (f p.1.0) (f n)) as (λ b. eqb (f p.1.0) (f n) ≡ b
        → cond b (Some (record_with f p.1.1)) (look (f n) (map made_one ps)) ≡ Some (record_with f r)) [
          | true ↦ λ i.
              let same : p.1.0 ≡ n = one_number n p.1.0 (there n r g) (eqb-true (f p.1.0) (f n) i) in
              let two : Some p.1.1 ≡ Some r = sym h.0 ∙ ap (get m) same ∙ g in let is : p.1.1 ≡ r = cc in
              ap (λ q. let o : Option Record = Some (record_with f q) in o) is
          | false ↦ λ i. look_new n r ps g h.1 (behind i)
        ] refl
      where
        behind : eqb (f p.1.0) (f n) ≡ false → has n (map number_on ps) ≡ true
        behind i = by (eqb p.1.0 n) refl k
          where
            by : (b : Bool) → eqb p.1.0 n ≡ b → (b || has n (map number_on ps)) ≡ true → has n (map number_on ps) ≡ true
            by false e z = z
            by true e z = absurd
                (true_not_false (sym (ap (λ j. f j == f n) (eqb-true p.1.0 n e) ∙ same_self (f n)) ∙ i))

    look_old : (k : ℕ) (q : Record) (ps : List (ℕ × Numbered)) → EachOf Here ps → look k (map made_one ps) ≡ Some q
        → (n : ℕ) × (r : Record) × (get m n ≡ Some r) × (f n ≡ k)
    look_old k q [] h e = absurd cc
    look_old k q (p ∷ ps) h e =
        elim (eqb (f p.1.0) k)
        as (λ b. eqb (f p.1.0) k ≡ b → cond b (Some (record_with f p.1.1)) (look k (map made_one ps)) ≡ Some q
        → (n : ℕ) × (r : Record) × (get m n ≡ Some r) × (f n ≡ k)) [
          | true ↦ λ i z. (p.1.0, p.1.1, h.0, eqb-true (f p.1.0) k i)
          | false ↦ λ i z. look_old k q ps h.1 z
        ] refl e

    new_once : IsOnce (numbers_of (map made_one in_lines))
    new_once = once_new in_lines here (subst IsOnce (sym numbers_are) once)

    pub carried_by : IsCarriedBy f m (with_puts empty (map made_one in_lines))
    carried_by = record {
      carries = λ n r g. get_made (map made_one in_lines) (f n) new_once
          ∙ look_new n r in_lines g here (ap (has n) numbers_are ∙ there n r g);
      one_to_one = λ n k r q g z e. one_number k n (there k q z) e;
      onto = λ k q g. look_old k q in_lines here (sym (get_made (map made_one in_lines) k new_once) ∙ g);
    }
