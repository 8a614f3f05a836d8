-- Every record stands once among the households.
use Rattle.std.specs.Prelude.{
  ℕ,
  ◌≡◌,
  ◌+◌,
  ◌==◌,
  nat_lt,
  Bool,
  true,
  false,
  List,
  [],
  ◌∷◌,
  ◌++◌,
  map,
  Option,
  Some,
  None,
  option_map,
  refl,
}
use Rattle.std.specs.List.{filter, flat_map}
use Rattle.std.specs.FinMap.{get, entries}
use Rattle.std.proofs.Common.{ap, sym, ◌∙◌, append_assoc, subst}
use Rattle.std.proofs.lemmas.Bool.{eqb-true}
use Rattle.std.proofs.lemmas.List.{map-append}
use Rattle.stored_lines.specs.Tree.{Tree, node, none, forest_of, flat, flat_all}
use Rattle.record_kinds.specs.Model as model
use Rattle.record_kinds.specs.declared.record.Record.{Record}
use Rattle.record_kinds.specs.declared.record.Record.TheVariants as kind
use Rattle.archive_state.specs.Links.{is_wanted, a_holder, a_cited}
use Rattle.record_shapes.specs.Lists.{EachOf, IsOnce, Ascends}
use Rattle.archive_state.specs.Content.{Content, Records}
use Rattle.archive_state.specs.Sound.{IsSound}
use Rattle.archive_state.specs.Sound as sound
use Rattle.gedcom_export.specs.Order.{Numbered, rank, is_event_of, is_citation_of, citations_of, household, households}
use Rattle.round_trip.specs.Positions.{numbers_in}
use Rattle.round_trip.specs.OrderLaws.{HouseholdsHaveAll}
use Rattle.round_trip.proofs.Listed.{
  has_first,
  has_left,
  has_right,
  has_flat,
  has_none_of,
  apart_by,
  each_filter,
  once_append,
  once_flat,
}
use Rattle.round_trip.proofs.Entries.{keys, Stands, entries_stand, some_have, some_rise}
use Rattle.round_trip.proofs.Ordered.{order, order_has, order_once, order_stands, StandsAt0}
use Rattle.record_shapes.proofs.Each.{each_both, each_more, has, each_flat, each_mapped, once_ascending}
use Rattle.list_laws.proofs.Booleans.{or_right, true_not_false}
use Rattle.list_laws.proofs.Numbers.{same_self}

-- ---- the numbers of a household
module _ (es : List Numbered) where
  -- of its citations; of a record with its citations; of its events; of one of level 0 with all that it owns
  abbrev pub cited : ℕ → List ℕ
  cited k = keys (filter (λ (e : Numbered). is_citation_of k e.1) es)

  abbrev pub with_cited : ℕ → List ℕ
  with_cited k = k ∷ cited k

  abbrev pub events : ℕ → List ℕ
  events k = keys (filter (λ (e : Numbered). is_event_of k e.1) es)

  abbrev pub with_owned : ℕ → List ℕ
  with_owned k = k ∷ (flat_map with_cited (events k) ++ cited k)

  leaves_are : (d : ℕ) (xs : List Numbered)
      → map (λ (p : ℕ × Numbered). p.1.0) (flat_all d (forest_of (map (λ (e : Numbered). node e none) xs))) ≡ keys xs
  leaves_are d [] = refl
  leaves_are d (x ∷ xs) = ap (λ ks. x.0 ∷ ks) (leaves_are d xs)

  branches_are : (d : ℕ) (xs : List Numbered) (ts : List (Tree Numbered)) (ks : List ℕ)
      → map (λ (p : ℕ × Numbered). p.1.0) (flat_all d (forest_of ts)) ≡ ks
      → map (λ (p : ℕ × Numbered). p.1.0)
      (flat_all d (forest_of (map (λ (e : Numbered). node e (forest_of (citations_of es e.0))) xs ++ ts)))
      ≡ flat_map with_cited (keys xs) ++ ks
  branches_are d [] ts ks h = h
  branches_are d (x ∷ xs) ts ks h =
      let below = flat_all (d + 1) (forest_of (citations_of es x.0)) in
      let rest = flat_all d (forest_of (map (λ (e : Numbered). node e (forest_of (citations_of es e.0))) xs ++ ts)) in
      ap (λ us. x.0 ∷ us) (map-append (λ (p : ℕ × Numbered). p.1.0) below rest
      ∙ (λ i. leaves_are (d + 1) (filter (λ (e : Numbered). is_citation_of x.0 e.1) es) i
      ++ branches_are d xs ts ks h i)
      ∙ sym (append_assoc (cited x.0) (flat_map with_cited (keys xs)) ks))

  household_is : (e : Numbered) → map (λ (p : ℕ × Numbered). p.1.0) (flat 0 (household es e)) ≡ with_owned e.0
  household_is e = ap (λ us. e.0 ∷ us)
      (branches_are 1 (filter (λ (x : Numbered). is_event_of e.0 x.1) es) (citations_of es e.0) (cited e.0)
      (leaves_are 1 (filter (λ (x : Numbered). is_citation_of e.0 x.1) es)))

  pub households_are : (xs : List Numbered) → numbers_in (map (household es) xs) ≡ flat_map with_owned (keys xs)
  households_are [] = refl
  households_are (x ∷ xs) = λ i. household_is x i ++ households_are xs i

-- ---- what a record is among what others own
abbrev owner_of_citation : Option Record → ℕ → ℕ
owner_of_citation (Some (kind.Citation c)) n = c.owner
owner_of_citation _ n = n

abbrev is_event : Option Record → Bool
is_event (Some (kind.Event e)) = true
is_event _ = false

abbrev owner_of_event : Option Record → ℕ → ℕ
owner_of_event (Some (kind.Event e)) k = e.owner
owner_of_event _ k = k

abbrev pub is_level_0 : Option Record → Bool
is_level_0 None = false
is_level_0 (Some r) = nat_lt 0 (rank r)

-- ---- the records of an archive
module _ (m : Records) where
  abbrev es : List Numbered
  es = entries m

  abbrev pub IsCitationOf : ℕ → ℕ → Type 0
  IsCitationOf k n = (c : model.Citation) × (get m n ≡ Some (kind.Citation c)) × (c.owner ≡ k)

  abbrev pub IsEventOf : ℕ → ℕ → Type 0
  IsEventOf k n = (e : model.Event) × (get m n ≡ Some (kind.Event e)) × (e.owner ≡ k)

  citation_of : (k n : ℕ) (r : Record) → get m n ≡ Some r → is_citation_of k r ≡ true → IsCitationOf k n
  citation_of k n (kind.Citation c) g h = (c, g, eqb-true c.owner k h)
  citation_of k n _ g h = absurd (true_not_false (sym h))

  event_of : (k n : ℕ) (r : Record) → get m n ≡ Some r → is_event_of k r ≡ true → IsEventOf k n
  event_of k n (kind.Event e) g h = (e, g, eqb-true e.owner k h)
  event_of k n _ g h = absurd (true_not_false (sym h))

  cited_are : (k : ℕ) → EachOf (IsCitationOf k) (cited es k)
  cited_are k = each_mapped (IsCitationOf k) (λ (e : Numbered). e.0)
      (filter (λ (e : Numbered). is_citation_of k e.1) es)
      (each_more (λ (e : Numbered). Stands m e × (is_citation_of k e.1 ≡ true)) (λ e. IsCitationOf k e.0)
      (λ (e : Numbered) (h : Stands m e × (is_citation_of k e.1 ≡ true)). citation_of k e.0 e.1 h.0 h.1)
      (filter (λ (e : Numbered). is_citation_of k e.1) es)
      (each_filter (Stands m) (λ (e : Numbered). is_citation_of k e.1) es (entries_stand m)))

  events_are : (k : ℕ) → EachOf (IsEventOf k) (events es k)
  events_are k = each_mapped (IsEventOf k) (λ (e : Numbered). e.0) (filter (λ (e : Numbered). is_event_of k e.1) es)
      (each_more (λ (e : Numbered). Stands m e × (is_event_of k e.1 ≡ true)) (λ e. IsEventOf k e.0)
      (λ (e : Numbered) (h : Stands m e × (is_event_of k e.1 ≡ true)). event_of k e.0 e.1 h.0 h.1)
      (filter (λ (e : Numbered). is_event_of k e.1) es)
      (each_filter (Stands m) (λ (e : Numbered). is_event_of k e.1) es (entries_stand m)))

  pub cited_rise : (k : ℕ) → Ascends (cited es k)
  cited_rise k = some_rise m (λ (e : Numbered). is_citation_of k e.1)

  pub events_rise : (k : ℕ) → Ascends (events es k)
  events_rise k = some_rise m (λ (e : Numbered). is_event_of k e.1)

  -- ---- an event with its citations
  abbrev root_1 : ℕ → ℕ
  root_1 n = owner_of_citation (get m n) n

  root_cited : (k n : ℕ) → IsCitationOf k n → root_1 n ≡ k
  root_cited k n h = ap (λ o. owner_of_citation o n) h.1 ∙ h.2

  pub event_once : (j k : ℕ) → IsEventOf j k → IsOnce (with_cited es k)
  event_once j k h = (
    has_none_of (λ n. is_event (get m n)) k (cited es k)
        (each_more (IsCitationOf k) (λ n. is_event (get m n) ≡ false)
        (λ (n : ℕ) (c : IsCitationOf k n). ap is_event c.1) (cited es k) (cited_are k)) (ap is_event h.1),
    once_ascending (cited es k) (cited_rise k),
  )

  event_root : (j k : ℕ) → IsEventOf j k → EachOf (λ n. root_1 n ≡ k) (with_cited es k)
  event_root j k h = (
    ap (λ o. owner_of_citation o k) h.1,
    each_more (IsCitationOf k) (λ n. root_1 n ≡ k) (λ n c. root_cited k n c) (cited es k) (cited_are k),
  )

  pub events_once : (k : ℕ) → IsOnce (flat_map (with_cited es) (events es k))
  events_once k = once_flat root_1 (with_cited es) (events es k) (once_ascending (events es k) (events_rise k))
      (each_more (IsEventOf k) (λ n. IsOnce (with_cited es n) × EachOf (λ i. root_1 i ≡ n) (with_cited es n))
      (λ n h. (event_once k n h, event_root k n h)) (events es k) (events_are k))

  -- ---- a record of level 0 with what it owns
  abbrev root_of : Option Record → ℕ → ℕ
  root_of (Some (kind.Event e)) n = e.owner
  root_of (Some (kind.Citation c)) n = owner_of_event (get m c.owner) c.owner
  root_of _ n = n

  abbrev root_0 : ℕ → ℕ
  root_0 n = root_of (get m n) n

  -- an event, or a citation of one
  abbrev is_of_event : Option Record → Bool
  is_of_event (Some (kind.Event e)) = true
  is_of_event (Some (kind.Citation c)) = is_event (get m c.owner)
  is_of_event _ = false

  root_self : (k : ℕ) (o : Option Record) → is_level_0 o ≡ true → root_of o k ≡ k
  root_self k None h = refl
  root_self k (Some (kind.Event e)) h = absurd (true_not_false (sym h))
  root_self k (Some (kind.Citation e)) h = absurd (true_not_false (sym h))
  root_self k (Some _) h = refl

  owner_self : (k : ℕ) (o : Option Record) → is_level_0 o ≡ true → owner_of_event o k ≡ k
  owner_self k None h = refl
  owner_self k (Some (kind.Event e)) h = absurd (true_not_false (sym h))
  owner_self k (Some _) h = refl

  no_event : (o : Option Record) → is_level_0 o ≡ true → is_event o ≡ false
  no_event None h = refl
  no_event (Some (kind.Event e)) h = absurd (true_not_false (sym h))
  no_event (Some _) h = refl

  module _ (k : ℕ) (h : is_level_0 (get m k) ≡ true) where
    each_event : (P : ℕ → Type 0) → ((n : ℕ) → IsEventOf k n → P n)
        → ((n i : ℕ) → IsEventOf k n → IsCitationOf n i → P i)
        → EachOf P (flat_map (with_cited es) (events es k))
    each_event P f g = each_flat P (with_cited es) (events es k)
        (each_more (IsEventOf k) (λ n. EachOf P (with_cited es n))
        (λ (n : ℕ) (e : IsEventOf k n).
        (f n e, each_more (IsCitationOf n) P (λ i w. g n i e w) (cited es n) (cited_are n)))
        (events es k) (events_are k))

    each_owned : (P : ℕ → Type 0) → ((n : ℕ) → IsEventOf k n → P n)
        → ((n i : ℕ) → IsEventOf k n → IsCitationOf n i → P i) → ((i : ℕ) → IsCitationOf k i → P i)
        → EachOf P (flat_map (with_cited es) (events es k) ++ cited es k)
    each_owned P f g c = each_both P (flat_map (with_cited es) (events es k)) (cited es k) (each_event P f g)
        (each_more (IsCitationOf k) P c (cited es k) (cited_are k))

    owned_root : EachOf (λ i. root_0 i ≡ k) (with_owned es k)
    owned_root = (
      root_self k (get m k) h,
      each_owned (λ i. root_0 i ≡ k)
          (λ (n : ℕ) (e : IsEventOf k n). ap (λ o. root_of o n) e.1 ∙ e.2)
          (λ (n i : ℕ) (e : IsEventOf k n) (c : IsCitationOf n i). ap (λ o. root_of o i) c.1
          ∙ ap (λ j. owner_of_event (get m j) j) c.2 ∙ ap (λ o. owner_of_event o n) e.1 ∙ e.2)
          (λ (i : ℕ) (c : IsCitationOf k i). ap (λ o. root_of o i) c.1 ∙ ap (λ j. owner_of_event (get m j) j) c.2
          ∙ owner_self k (get m k) h),
    )

    pub owned_once : IsOnce (with_owned es k)
    owned_once = (
      has_none_of (λ i. is_level_0 (get m i)) k (flat_map (with_cited es) (events es k) ++ cited es k)
          (each_owned (λ i. is_level_0 (get m i) ≡ false) (λ (n : ℕ) (e : IsEventOf k n). ap is_level_0 e.1)
          (λ (n i : ℕ) (e : IsEventOf k n) (c : IsCitationOf n i). ap is_level_0 c.1)
          (λ (i : ℕ) (c : IsCitationOf k i). ap is_level_0 c.1)) h,
      once_append (flat_map (with_cited es) (events es k)) (cited es k) (events_once k)
          (once_ascending (cited es k) (cited_rise k))
          (apart_by (λ i. is_of_event (get m i)) (flat_map (with_cited es) (events es k)) (cited es k)
          (each_event (λ i. is_of_event (get m i) ≡ true) (λ (n : ℕ) (e : IsEventOf k n). ap is_of_event e.1)
          (λ (n i : ℕ) (e : IsEventOf k n) (c : IsCitationOf n i). ap is_of_event c.1
          ∙ ap (λ j. is_event (get m j)) c.2
          ∙ ap is_event e.1))
          (each_more (IsCitationOf k) (λ i. is_of_event (get m i) ≡ false)
          (λ (i : ℕ) (c : IsCitationOf k i). ap is_of_event c.1 ∙ ap (λ j. is_event (get m j)) c.2
          ∙ no_event (get m k) h) (cited es k) (cited_are k))),
    )

  -- ---- all
  abbrev pub all_numbers : List ℕ
  all_numbers = flat_map (with_owned es) (keys (order m))

  pub numbers_are : numbers_in (households m) ≡ all_numbers
  numbers_are = households_are es (order m)

  pub all_once : IsOnce all_numbers
  all_once = once_flat root_0 (with_owned es) (keys (order m)) (order_once m)
      (each_mapped (λ k. IsOnce (with_owned es k) × EachOf (λ i. root_0 i ≡ k) (with_owned es k))
      (λ (e : Numbered). e.0)
      (order m)
      (each_more (StandsAt0 m) (λ e. IsOnce (with_owned es e.0) × EachOf (λ i. root_0 i ≡ e.0) (with_owned es e.0))
      (λ (e : Numbered) (s : StandsAt0 m e). let z : is_level_0 (get m e.0) ≡ true = ap is_level_0 s.0 ∙ s.1 in
      (owned_once e.0 z, owned_root e.0 z)) (order m) (order_stands m)))

  -- ---- each record is there
  pub event_there : (n : ℕ) (e : model.Event) → get m n ≡ Some (kind.Event e) → has n (events es e.owner) ≡ true
  event_there n e g = some_have m n (kind.Event e) (λ (x : Numbered). is_event_of e.owner x.1) g
      (λ x same. ap (is_event_of e.owner) same ∙ same_self e.owner)

  pub citation_there : (n : ℕ) (c : model.Citation) → get m n ≡ Some (kind.Citation c)
      → has n (cited es c.owner) ≡ true
  citation_there n c g = some_have m n (kind.Citation c) (λ (x : Numbered). is_citation_of c.owner x.1) g
      (λ x same. ap (is_citation_of c.owner) same ∙ same_self c.owner)

  pub owned_there : (k n : ℕ) (r : Record) → get m k ≡ Some r → nat_lt 0 (rank r) ≡ true
      → has n (with_owned es k) ≡ true → has n all_numbers ≡ true
  owned_there k n r g z h = has_flat (with_owned es) k n (keys (order m)) (order_has m k r g z) h

  -- who has events is a person or a family
  pub holder : (k : ℕ) → sound.Stands m (k, a_holder) → (r : Record) × (get m k ≡ Some r) × (nat_lt 0 (rank r) ≡ true)
  holder k s = by (get m k) refl s
    where
      by : (o : Option Record) → get m k ≡ o → option_map (is_wanted a_holder) o ≡ Some true
          → (r : Record) × (get m k ≡ Some r) × (nat_lt 0 (rank r) ≡ true)
      by (Some (kind.Person p)) g e = (kind.Person p, g, refl)
      by (Some (kind.Family p)) g e = (kind.Family p, g, refl)
      by None g e = absurd cc
      by (Some _) g e = absurd cc

  -- what has citations is a person, a family or an event
  pub data IsCited (k : ℕ) : Type 0 where
    of_level_0 : (r : Record) → get m k ≡ Some r → nat_lt 0 (rank r) ≡ true → IsCited k
    of_event : (e : model.Event) → get m k ≡ Some (kind.Event e) → IsCited k

  pub cited_by : (k : ℕ) → sound.Stands m (k, a_cited) → IsCited k
  cited_by k s = by (get m k) refl s
    where
      by : (o : Option Record) → get m k ≡ o → option_map (is_wanted a_cited) o ≡ Some true → IsCited k
      by (Some (kind.Person p)) g e = of_level_0 (kind.Person p) g refl
      by (Some (kind.Family p)) g e = of_level_0 (kind.Family p) g refl
      by (Some (kind.Event v)) g e = of_event v g
      by None g e = absurd cc
      by (Some _) g e = absurd cc

  pub event_within : (k n j : ℕ) → has j (events es k) ≡ true → has n (with_cited es j) ≡ true
      → has n (flat_map (with_cited es) (events es k)) ≡ true
  event_within k n j h g = has_flat (with_cited es) j n (events es k) h g

  within_owned : (k n : ℕ) → has n (flat_map (with_cited es) (events es k)) ≡ true → has n (with_owned es k) ≡ true
  within_owned k n h = or_right (k == n) (has n (flat_map (with_cited es) (events es k) ++ cited es k))
      (has_left n (flat_map (with_cited es) (events es k)) (cited es k) h)

  -- the links of a sound archive
  pub record HasOwners : Type 0 where
    pub holders : (n : ℕ) (e : model.Event) → get m n ≡ Some (kind.Event e) → sound.Stands m (e.owner, a_holder)
    pub citers : (n : ℕ) (c : model.Citation) → get m n ≡ Some (kind.Citation c) → sound.Stands m (c.owner, a_cited)

  module _ (owners : HasOwners) where
    event_among : (n j : ℕ) (e : model.Event) → get m j ≡ Some (kind.Event e) → has n (with_cited es j) ≡ true
        → has n all_numbers ≡ true
    event_among n j e g h =
        let above = holder e.owner (owners.holders j e g) in
        owned_there e.owner n above.0 above.1 above.2
        (within_owned e.owner n (event_within e.owner n j (event_there j e g) h))

    citation_among : (n : ℕ) (c : model.Citation) → get m n ≡ Some (kind.Citation c) → IsCited c.owner
        → has n all_numbers ≡ true
    citation_among n c g (of_level_0 r h z) = owned_there c.owner n r h z
        (or_right (c.owner == n) (has n (flat_map (with_cited es) (events es c.owner) ++ cited es c.owner))
        (has_right n (flat_map (with_cited es) (events es c.owner)) (cited es c.owner) (citation_there n c g)))
    citation_among n c g (of_event e h) = event_among n c.owner e h
        (or_right (c.owner == n) (has n (cited es c.owner)) (citation_there n c g))

    level_0_among : (n : ℕ) (r : Record) → get m n ≡ Some r → nat_lt 0 (rank r) ≡ true → has n all_numbers ≡ true
    level_0_among n r g z = owned_there n n r g z (has_first n _)

    pub all_there : (n : ℕ) (r : Record) → get m n ≡ Some r → has n all_numbers ≡ true
    all_there n (kind.Event e) g = event_among n n e g (has_first n (cited es n))
    all_there n (kind.Citation c) g = citation_among n c g (cited_by c.owner (owners.citers n c g))
    all_there n (kind.Place p) g = level_0_among n (kind.Place p) g refl
    all_there n (kind.Repo p) g = level_0_among n (kind.Repo p) g refl
    all_there n (kind.Source p) g = level_0_among n (kind.Source p) g refl
    all_there n (kind.Person p) g = level_0_among n (kind.Person p) g refl
    all_there n (kind.Family p) g = level_0_among n (kind.Family p) g refl
    all_there n (kind.Entry p) g = level_0_among n (kind.Entry p) g refl
    all_there n (kind.Other p) g = level_0_among n (kind.Other p) g refl

pub owners_of : (c : Content) → IsSound c → HasOwners c.records
owners_of c h = record {
  holders = λ n e g. (h.named n (kind.Event e) g).0;
  citers = λ n d g. (h.named n (kind.Citation d) g).0;
}

pub have_all : HouseholdsHaveAll
have_all c h = (
  subst IsOnce (sym (numbers_are c.records)) (all_once c.records),
  λ n r g. ap (has n) (numbers_are c.records) ∙ all_there c.records (owners_of c h) n r g,
)
