-- Each record of a sound archive that is written at level 0 is read again from its lines, with what it owns.
use Rattle.std.specs.Prelude.{ℕ, ◌≡◌, ◌==◌, Bool, true, false, cond, List, [], ◌∷◌, ◌++◌, map, Some, option_map, refl}
use Rattle.std.specs.List.{filter}
use Rattle.std.specs.Option.{unwrap_or}
use Rattle.std.specs.FinMap.{get, entries}
use Rattle.std.proofs.Common.{ap, sym, ◌∙◌, subst, eqb}
use Rattle.std.proofs.lemmas.Bool.{eqb-true}
use Rattle.stored_lines.specs.Tree.{Tree, node, none, forest_of, list_of, relabel_all}
use Rattle.record_kinds.specs.Model as model
use Rattle.record_kinds.specs.declared.record.Record.{Record}
use Rattle.record_kinds.specs.declared.record.Record.TheVariants as kind
use Rattle.archive_state.specs.Links.{Wanted, a_cited, a_holder, is_wanted}
use Rattle.record_shapes.specs.Lists.{EachOf}
use Rattle.record_shapes.specs.Readable.{IsReadable}
use Rattle.record_shapes.specs.Shapes.{Around, Side}
use Rattle.archive_state.specs.Content.{Content, Records}
use Rattle.archive_state.specs.Known.{known_before, known_of}
use Rattle.archive_state.specs.Owned.{AreOwned, IsAround, IsCitationOf, IsEventOf, IsSideIn, IsWithOwned}
use Rattle.archive_state.specs.Sound.{IsSound}
use Rattle.archive_state.specs.Sound as sound
use Rattle.archive_state.proofs.Known.{path_known}
use Rattle.gedcom_export.specs.Around.{around, child_sides, partner_sides}
use Rattle.gedcom_export.specs.Order.{Numbered, citations_of, events_of, is_citation_of, is_event_of}
use Rattle.round_trip.proofs.Listed.{each_filter}
use Rattle.round_trip.proofs.Entries.{Stands, entries_stand}
use Rattle.round_trip.proofs.Ordered.{StandsAt0}
use Rattle.round_trip.proofs.Nodes.{house, owns}
use Rattle.record_shapes.proofs.Each.{each_more, each_flat}
use Rattle.list_laws.proofs.Booleans.{true_not_false}

-- what holds of each record of a sound archive
abbrev pub ReadsSound : Type 0
ReadsSound = (c : Content) (a : Around) (n : ℕ) (t : Tree Record) → IsSound c → IsAround c.records a
    → IsWithOwned c.records n t
    → IsReadable (known_before c.records n) (known_of c.records) a n t

abbrev records_of : List (Tree Numbered) → List (Tree Record)
records_of ts = list_of (relabel_all (λ (e : Numbered). e.1) (forest_of ts))

records_append : (xs ys : List (Tree Numbered)) → records_of (xs ++ ys) ≡ records_of xs ++ records_of ys
records_append [] ys = refl
records_append (node e f ∷ xs) ys = ap (λ us. node e.1 (relabel_all (λ (x : Numbered). x.1) f) ∷ us)
    (records_append xs ys)

pub filter_none : {A : Type 0} (test : A → Bool) (xs : List A) → EachOf (λ x. test x ≡ false) xs → filter test xs ≡ []
filter_none test [] h = refl
filter_none test (x ∷ xs) h = ap (λ b. cond b (x ∷ filter test xs) (filter test xs)) h.0 ∙ filter_none test xs h.1

module _ (c : Content) (is : IsSound c) where
  abbrev m : Records
  m = c.records

  abbrev es : List Numbered
  es = entries m

  -- ---- what lines show of other records
  children_are : (k : ℕ) (f : model.Family) (cs : List model.Child) → get m k ≡ Some (kind.Family f)
      → EachOf (IsSideIn m)
      (map (λ (x : model.Child). (let s : Side = record { family = k; carried = x.carried_by_person } in s)) cs)
  children_are k f [] g = tt
  children_are k f (x ∷ cs) g = ((f, g), children_are k f cs g)

  partners_are : (k : ℕ) (f : model.Family) (ps : List model.Partner) → get m k ≡ Some (kind.Family f)
      → EachOf (IsSideIn m)
      (map (λ (x : model.Partner). (let s : Side = record { family = k; carried = x.carried_by_person } in s)) ps)
  partners_are k f [] g = tt
  partners_are k f (x ∷ ps) g = ((f, g), partners_are k f ps g)

  child_is : (n : ℕ) (e : Numbered) → Stands m e → EachOf (IsSideIn m) (child_sides n e)
  child_is n (k, kind.Family f) g = children_are k f (filter (λ (x : model.Child). x.person == n) f.children) g
  child_is n (k, _) g = tt

  partner_is : (n : ℕ) (e : Numbered) → Stands m e → EachOf (IsSideIn m) (partner_sides n e)
  partner_is n (k, kind.Family f) g = partners_are k f (filter (λ (x : model.Partner). x.person == n) f.partners) g
  partner_is n (k, _) g = tt

  pub around_is : IsAround m (around m)
  around_is = record {
    paths = λ n path h. ap (λ o. unwrap_or o []) ((path_known m n path).0 h);
    child_in = λ n. each_flat (IsSideIn m) (child_sides n) es
        (each_more (Stands m) (λ e. EachOf (IsSideIn m) (child_sides n e)) (λ e g. child_is n e g) es
        (entries_stand m));
    partner_in = λ n. each_flat (IsSideIn m) (partner_sides n) es
        (each_more (Stands m) (λ e. EachOf (IsSideIn m) (partner_sides n e)) (λ e g. partner_is n e g) es
        (entries_stand m));
  }

  -- ---- what a record owns
  abbrev Passing : (Numbered → Bool) → Numbered → Type 0
  Passing test e = Stands m e × (test e ≡ true)

  passing : (test : Numbered → Bool) → EachOf (Passing test) (filter test es)
  passing test = each_filter (Stands m) test es (entries_stand m)

  citations_are : (k : ℕ) (xs : List Numbered) → EachOf (Passing (λ (e : Numbered). is_citation_of k e.1)) xs
      → EachOf (IsCitationOf m k) (records_of (map (λ (e : Numbered). node e none) xs))
  citations_are k [] h = tt
  citations_are k ((n, kind.Citation x) ∷ xs) h = ((n, h.0.0, eqb-true x.owner k h.0.1, refl), citations_are k xs h.1)
  citations_are k ((n, _) ∷ xs) h = absurd (true_not_false (sym h.0.1))

  cited : (k : ℕ) → EachOf (IsCitationOf m k) (records_of (citations_of es k))
  cited k = citations_are k (filter (λ (e : Numbered). is_citation_of k e.1) es)
      (passing (λ (e : Numbered). is_citation_of k e.1))

  events_are : (k : ℕ) (xs : List Numbered) → EachOf (Passing (λ (e : Numbered). is_event_of k e.1)) xs
      → EachOf (IsEventOf m k) (records_of (map (λ (e : Numbered). node e (forest_of (citations_of es e.0))) xs))
  events_are k [] h = tt
  events_are k ((n, kind.Event x) ∷ xs) h = ((n, h.0.0, eqb-true x.owner k h.0.1, cited n), events_are k xs h.1)
  events_are k ((n, _) ∷ xs) h = absurd (true_not_false (sym h.0.1))

  pub owned_are : (k : ℕ) → AreOwned m k (owns m k)
  owned_are k = record {
    events = records_of (events_of es k);
    citations = records_of (citations_of es k);
    all = records_append (events_of es k) (citations_of es k);
    are_events = events_are k (filter (λ (e : Numbered). is_event_of k e.1) es)
        (passing (λ (e : Numbered). is_event_of k e.1));
    are_citations = cited k;
  }

  -- ---- a record of most kinds owns nothing
  not_wanted : (w : Wanted) (k : ℕ) (r : Record) → get m k ≡ Some r → is_wanted w r ≡ false → sound.Stands m (k, w) → ⊥
  not_wanted w k r g h s = let e : Some (is_wanted w r) ≡ Some true = sym (ap (option_map (is_wanted w)) g) ∙ s in
      let two : is_wanted w r ≡ true = cc in true_not_false (sym two ∙ h)

  no_event : (k : ℕ) (r : Record) → get m k ≡ Some r → is_wanted a_holder r ≡ false → (e : Numbered) → Stands m e
      → is_event_of k e.1 ≡ false
  no_event k r g h (n, kind.Event x) st = by (eqb x.owner k) refl
    where
      by : (b : Bool) → eqb x.owner k ≡ b → b ≡ false
      by false e = refl
      by true e = absurd (not_wanted a_holder k r g h
          (subst (λ j. sound.Stands m (j, a_holder)) (eqb-true x.owner k e) (is.named n (kind.Event x) st).0))
  no_event k r g h (n, _) st = refl

  no_citation : (k : ℕ) (r : Record) → get m k ≡ Some r → is_wanted a_cited r ≡ false → (e : Numbered) → Stands m e
      → is_citation_of k e.1 ≡ false
  no_citation k r g h (n, kind.Citation x) st = by (eqb x.owner k) refl
    where
      by : (b : Bool) → eqb x.owner k ≡ b → b ≡ false
      by false e = refl
      by true e = absurd (not_wanted a_cited k r g h
          (subst (λ j. sound.Stands m (j, a_cited)) (eqb-true x.owner k e) (is.named n (kind.Citation x) st).0))
  no_citation k r g h (n, _) st = refl

  pub owns_none : (k : ℕ) (r : Record) → get m k ≡ Some r → is_wanted a_holder r ≡ false → is_wanted a_cited r ≡ false
      → relabel_all (λ (e : Numbered). e.1) (forest_of (events_of es k ++ citations_of es k)) ≡ none
  owns_none k r g h i =
      let none_events = filter_none (λ (e : Numbered). is_event_of k e.1) es
      (each_more (Stands m) (λ e. is_event_of k e.1 ≡ false) (no_event k r g h) es (entries_stand m)) in
      let none_cited = filter_none (λ (e : Numbered). is_citation_of k e.1) es
      (each_more (Stands m) (λ e. is_citation_of k e.1 ≡ false) (no_citation k r g i) es (entries_stand m)) in
      λ z. relabel_all (λ (e : Numbered). e.1)
      (forest_of (map (λ (e : Numbered). node e (forest_of (citations_of es e.0))) (none_events z)
      ++ map (λ (e : Numbered). node e none) (none_cited z)))

  -- ---- all
  with_owned : (e : Numbered) → StandsAt0 m e → IsWithOwned m e.0 (house m e)
  with_owned (k, kind.Person x) st = (st.0, owned_are k)
  with_owned (k, kind.Family x) st = (st.0, owned_are k)
  with_owned (k, kind.Event x) st = absurd (true_not_false (sym st.1))
  with_owned (k, kind.Citation x) st = absurd (true_not_false (sym st.1))
  with_owned (k, kind.Place x) st = (st.0, owns_none k (kind.Place x) st.0 refl refl)
  with_owned (k, kind.Repo x) st = (st.0, owns_none k (kind.Repo x) st.0 refl refl)
  with_owned (k, kind.Source x) st = (st.0, owns_none k (kind.Source x) st.0 refl refl)
  with_owned (k, kind.Entry x) st = (st.0, owns_none k (kind.Entry x) st.0 refl refl)
  with_owned (k, kind.Other x) st = (st.0, owns_none k (kind.Other x) st.0 refl refl)

  abbrev pub Shaped : Numbered → Type 0
  Shaped e = IsReadable (known_before m e.0) (known_of m) (around m) e.0 (house m e)

  pub shaped : ReadsSound → (e : Numbered) → StandsAt0 m e → Shaped e
  shaped reads e st = reads c (around m) e.0 (house m e) is around_is (with_owned e st)
