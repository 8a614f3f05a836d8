-- An index grows with the records that it shows.
use Rattle.std.proofs.Common.{
  ◌≡◌,
  ℕ,
  List,
  [],
  ◌∷◌,
  ◌++◌,
  map,
  Bool,
  true,
  false,
  ◌==◌,
  cond,
  refl,
  sym,
  ap,
  subst,
  ◌∙◌,
  eqb-true,
}
use Rattle.std.proofs.lemmas.List.{append-nil, append_assoc, map-append}
use Rattle.std.proofs.lemmas.List.Elements.{filter-append}
use Rattle.std.proofs.lemmas.Grind.{flat_map-append}
use Rattle.std.specs.Prelude.{Option, Some, None, fold}
use Rattle.std.specs.List.{filter, flat_map}
use Rattle.std.specs.Ordering.{nat_cmp, eq_by_cmp}
use Rattle.std.specs.Cmp.{nat_cmp_total, unsigned_tied}
use Rattle.std.specs.FinMap.{
  FinMap,
  find,
  get,
  insert,
  get-insert,
  get-empty,
  keys,
  entries,
  entries_sorted,
  get-entries,
}
use Rattle.std.specs.FinMap.Entries.{find-append}
use Rattle.record_kinds.specs.Model as model
use Rattle.archive_state.specs.Content.{Records}
use Rattle.record_kinds.specs.declared.record.Record.{Record}
use Rattle.record_kinds.specs.declared.record.Record.TheVariants as kind
use Rattle.record_shapes.specs.Shapes.{Side}
use Rattle.gedcom_export.specs.Around.{child_sides, partner_sides}
use Rattle.gedcom_export.specs.Names.{letter_at}
use Rattle.gedcom_export.specs.Order.{Numbered, is_event_of, is_citation_of, of_rank}
use Rattle.gedcom_export.specs.Order as order
use Rattle.gedcom_export.specs.Adding.{nothing, owned, children_of, partners_of, added, with_found, gathered_of}
use Rattle.gedcom_export.specs.Index.{Index, IsGathered, letter_with, place_name, numbers}
use Rattle.gedcom_export.specs.Owned.{numbers_by, sides_by}
use Rattle.gedcom_export.specs.declared.membership.Membership.{Membership}
use Rattle.gedcom_export.specs.declared.index_owned.Owned.{Owned}
use Rattle.gedcom_export.specs.declared.place_name.PlaceName.{PlaceName}
use Rattle.gedcom_export.specs.declared.rank.Rank.{Rank}
use Rattle.gedcom_export.specs.declared.rank.Rank.TheVariants as rank
use Rattle.gedcom_export.proofs.Walked.{Rises, at_number, found_there, none_before}

-- ---- what a record adds to each list
abbrev put_maybe : {X : Type 0} → ℕ → Option X → FinMap nat_cmp X → FinMap nat_cmp X
put_maybe n None m = m
put_maybe n (Some x) m = insert m n x

abbrev rank_of : Record → Option Rank
rank_of (kind.Place p) = Some rank.Places
rank_of (kind.Repo r) = Some rank.Repos
rank_of (kind.Source s) = Some rank.Sources
rank_of (kind.Person p) = Some rank.Persons
rank_of (kind.Family f) = Some rank.Families
rank_of (kind.Entry e) = Some rank.Entries
rank_of (kind.Other o) = None
rank_of (kind.Event e) = None
rank_of (kind.Citation c) = None

abbrev event_in : ℕ → Record → List Owned
event_in n (kind.Event e) = owned e.owner n
event_in n _ = []

abbrev citation_in : ℕ → Record → List Owned
citation_in n (kind.Citation c) = owned c.owner n
citation_in n _ = []

abbrev children_in : ℕ → Record → List Membership
children_in n (kind.Family f) = children_of n f.children
children_in n _ = []

abbrev partners_in : ℕ → Record → List Membership
partners_in n (kind.Family f) = partners_of n f.partners
partners_in n _ = []

abbrev alone : ℕ → ℕ → Record → List ℕ
alone k n r = numbers (of_rank ((n, r) ∷ []) k)

abbrev grown : ℕ → Record → Index → Index
grown n r i = record {
  ranks = put_maybe n (rank_of r) i.ranks;
  names = put_maybe n (place_name (Some r)) i.names;
  events = i.events ++ event_in n r;
  citations = i.citations ++ citation_in n r;
  child_in = i.child_in ++ children_in n r;
  partner_in = i.partner_in ++ partners_in n r;
  places = i.places ++ alone 1 n r;
  repos = i.repos ++ alone 2 n r;
  sources = i.sources ++ alone 3 n r;
  persons = i.persons ++ alone 4 n r;
  families = i.families ++ alone 5 n r;
  entries = i.entries ++ alone 6 n r;
  others = i.others ++ alone 7 n r;
}

added_is : (n : ℕ) (r : Record) (i : Index) → grown n r i ≡ added n r i
added_is n (kind.Place p) i = simp append-nil
added_is n (kind.Repo r) i = simp append-nil
added_is n (kind.Source s) i = simp append-nil
added_is n (kind.Person p) i = simp append-nil
added_is n (kind.Family f) i = simp append-nil
added_is n (kind.Entry e) i = simp append-nil
added_is n (kind.Other o) i = simp append-nil
added_is n (kind.Event e) i = simp append-nil
added_is n (kind.Citation c) i = simp append-nil

-- ---- maps
shown_more : {X Z : Type 0} (show : Option Record → Z) (read : Option X → Z) → read None ≡ show None
    → (m : FinMap nat_cmp X) (es : List Numbered) (n : ℕ) (r : Record) (o : Option X) → read o ≡ show (Some r)
    → find nat_cmp n es ≡ None → ((q : ℕ) → read (get m q) ≡ show (find nat_cmp q es)) → (q : ℕ)
    → read (get (put_maybe n o m) q) ≡ show (find nat_cmp q (es ++ (n, r) ∷ []))
shown_more show read bare m es n r (Some x) is none h q =
    ap read (get-insert nat_cmp_total m n x q)
    ∙ elim (eq_by_cmp nat_cmp q n) as (λ b. read (cond b (Some x) (get m q))
    ≡ show (cond b (Some r) (find nat_cmp q es))) [ true ↦ is | false ↦ h q ]
    ∙ ap show (sym (find-append nat_cmp nat_cmp_total es n r q none))
shown_more show read bare m es n r None is none h q =
    elim (q == n) as (λ b. (q == n) ≡ b → read (get m q) ≡ show (cond b (Some r) (find nat_cmp q es))) [
      | true ↦ λ t. h q ∙ ap show (ap (λ x. find nat_cmp x es) (eqb-true q n t) ∙ none) ∙ sym bare ∙ is
      | false ↦ λ t. h q
    ] refl
    ∙ ap (λ b. show (cond b (Some r) (find nat_cmp q es))) (sym (unsigned_tied q n))
    ∙ ap show (sym (find-append nat_cmp nat_cmp_total es n r q none))

letter_is : (r : Record) → letter_with (rank_of r) ≡ letter_at (Some r)
letter_is (kind.Place p) = refl
letter_is (kind.Repo r) = refl
letter_is (kind.Source s) = refl
letter_is (kind.Person p) = refl
letter_is (kind.Family f) = refl
letter_is (kind.Entry e) = refl
letter_is (kind.Other o) = refl
letter_is (kind.Event e) = refl
letter_is (kind.Citation c) = refl

-- ---- what a record owns
numbers_by-append : (q : ℕ) (xs ys : List Owned) → numbers_by q (xs ++ ys) ≡ numbers_by q xs ++ numbers_by q ys
numbers_by-append q xs ys =
    ap (map (λ (o : Owned). o.number)) (filter-append (λ (o : Owned). o.owner == q) xs ys)
    ∙ map-append (λ (o : Owned). o.number) (filter (λ (o : Owned). o.owner == q) xs)
    (filter (λ (o : Owned). o.owner == q) ys)

sides_by-append : (q : ℕ) (xs ys : List Membership) → sides_by q (xs ++ ys) ≡ sides_by q xs ++ sides_by q ys
sides_by-append q xs ys =
    ap (map (λ (x : Membership). x.side)) (filter-append (λ (x : Membership). x.person == q) xs ys)
    ∙ map-append (λ (x : Membership). x.side) (filter (λ (x : Membership). x.person == q) xs)
    (filter (λ (x : Membership). x.person == q) ys)

numbers-append : (p : Numbered → Bool) (xs ys : List Numbered) → numbers (filter p (xs ++ ys))
    ≡ numbers (filter p xs) ++ numbers (filter p ys)
numbers-append p xs ys =
    ap numbers (filter-append p xs ys) ∙ map-append (λ (e : Numbered). e.0) (filter p xs) (filter p ys)

event_is : (q n : ℕ) (r : Record) → numbers_by q (event_in n r)
    ≡ numbers (filter (λ (e : Numbered). is_event_of q e.1) ((n, r) ∷ []))
event_is q n (kind.Event e) =
    elim (e.owner == q) as (λ b. map (λ (o : Owned). o.number) (cond b (record { owner = e.owner; number = n } ∷ []) [])
    ≡ numbers (cond b ((n, kind.Event e) ∷ []) [])) [ true ↦ refl | false ↦ refl ]
event_is q n (kind.Place p) = refl
event_is q n (kind.Repo r) = refl
event_is q n (kind.Source s) = refl
event_is q n (kind.Person p) = refl
event_is q n (kind.Family f) = refl
event_is q n (kind.Entry e) = refl
event_is q n (kind.Other o) = refl
event_is q n (kind.Citation c) = refl

citation_is : (q n : ℕ) (r : Record) → numbers_by q (citation_in n r)
    ≡ numbers (filter (λ (e : Numbered). is_citation_of q e.1) ((n, r) ∷ []))
citation_is q n (kind.Citation c) =
    elim (c.owner == q) as (λ b. map (λ (o : Owned). o.number) (cond b (record { owner = c.owner; number = n } ∷ []) [])
    ≡ numbers (cond b ((n, kind.Citation c) ∷ []) [])) [ true ↦ refl | false ↦ refl ]
citation_is q n (kind.Place p) = refl
citation_is q n (kind.Repo r) = refl
citation_is q n (kind.Source s) = refl
citation_is q n (kind.Person p) = refl
citation_is q n (kind.Family f) = refl
citation_is q n (kind.Entry e) = refl
citation_is q n (kind.Other o) = refl
citation_is q n (kind.Event e) = refl

-- ---- families
abbrev child_side : ℕ → model.Child → Side
child_side k c = record { family = k; carried = c.carried_by_person }

abbrev partner_side : ℕ → model.Partner → Side
partner_side k p = record { family = k; carried = p.carried_by_person }

children_are : (q k : ℕ) (cs : List model.Child) → sides_by q (children_of k cs)
    ≡ map (child_side k) (filter (λ (c : model.Child). c.person == q) cs)
children_are q k [] = refl
children_are q k (c ∷ cs) =
    elim (c.person == q) as (λ b. map (λ (x : Membership). x.side)
    (cond b (record { person = c.person; side = child_side k c } ∷ filter (λ (x : Membership). x.person == q)
    (children_of k cs)) (filter (λ (x : Membership). x.person == q) (children_of k cs)))
    ≡ map (child_side k) (cond b (c ∷ filter (λ (c : model.Child). c.person == q) cs)
    (filter (λ (c : model.Child). c.person == q) cs))) [
      | true ↦ ap (λ l. child_side k c ∷ l) (children_are q k cs)
      | false ↦ children_are q k cs
    ]

partners_are : (q k : ℕ) (ps : List model.Partner) → sides_by q (partners_of k ps)
    ≡ map (partner_side k) (filter (λ (p : model.Partner). p.person == q) ps)
partners_are q k [] = refl
partners_are q k (p ∷ ps) =
    elim (p.person == q) as (λ b. map (λ (x : Membership). x.side)
    (cond b (record { person = p.person; side = partner_side k p } ∷ filter (λ (x : Membership). x.person == q)
    (partners_of k ps)) (filter (λ (x : Membership). x.person == q) (partners_of k ps)))
    ≡ map (partner_side k) (cond b (p ∷ filter (λ (p : model.Partner). p.person == q) ps)
    (filter (λ (p : model.Partner). p.person == q) ps))) [
      | true ↦ ap (λ l. partner_side k p ∷ l) (partners_are q k ps)
      | false ↦ partners_are q k ps
    ]

child_is : (q n : ℕ) (r : Record) → sides_by q (children_in n r) ≡ flat_map (child_sides q) ((n, r) ∷ [])
child_is q n (kind.Family f) =
    children_are q n f.children ∙ sym (append-nil (map (child_side n)
    (filter (λ (c : model.Child). c.person == q) f.children)))
child_is q n (kind.Place p) = refl
child_is q n (kind.Repo r) = refl
child_is q n (kind.Source s) = refl
child_is q n (kind.Person p) = refl
child_is q n (kind.Entry e) = refl
child_is q n (kind.Other o) = refl
child_is q n (kind.Event e) = refl
child_is q n (kind.Citation c) = refl

partner_is : (q n : ℕ) (r : Record) → sides_by q (partners_in n r) ≡ flat_map (partner_sides q) ((n, r) ∷ [])
partner_is q n (kind.Family f) =
    partners_are q n f.partners ∙ sym (append-nil (map (partner_side n)
    (filter (λ (p : model.Partner). p.person == q) f.partners)))
partner_is q n (kind.Place p) = refl
partner_is q n (kind.Repo r) = refl
partner_is q n (kind.Source s) = refl
partner_is q n (kind.Person p) = refl
partner_is q n (kind.Entry e) = refl
partner_is q n (kind.Other o) = refl
partner_is q n (kind.Event e) = refl
partner_is q n (kind.Citation c) = refl

-- ---- a step
ranked : (es : List Numbered) (n : ℕ) (r : Record) (k : ℕ) (xs : List ℕ) → xs ≡ numbers (of_rank es k)
    → xs ++ alone k n r ≡ numbers (of_rank (es ++ (n, r) ∷ []) k)
ranked es n r k xs is =
    ap (λ l. l ++ alone k n r) is ∙ sym (numbers-append (λ (e : Numbered). order.rank e.1 == k) es ((n, r) ∷ []))

both_grown : (es : List Numbered) (n : ℕ) (r : Record) (i : Index) → find nat_cmp n es ≡ None → IsGathered es i
    → IsGathered (es ++ (n, r) ∷ []) (grown n r i)
both_grown es n r i none h = record {
  letters = shown_more letter_at letter_with refl i.ranks es n r (rank_of r) (letter_is r) none h.letters;
  names = shown_more place_name (λ (o : Option PlaceName). o) refl i.names es n r (place_name (Some r))
      refl none h.names;
  events = λ q. numbers_by-append q i.events (event_in n r)
      ∙ ap (λ l. l ++ numbers_by q (event_in n r)) (h.events q)
      ∙ ap (λ l. numbers (filter (λ (e : Numbered). is_event_of q e.1) es) ++ l) (event_is q n r)
      ∙ sym (numbers-append (λ (e : Numbered). is_event_of q e.1) es ((n, r) ∷ []));
  citations = λ q. numbers_by-append q i.citations (citation_in n r)
      ∙ ap (λ l. l ++ numbers_by q (citation_in n r)) (h.citations q)
      ∙ ap (λ l. numbers (filter (λ (e : Numbered). is_citation_of q e.1) es) ++ l) (citation_is q n r)
      ∙ sym (numbers-append (λ (e : Numbered). is_citation_of q e.1) es ((n, r) ∷ []));
  child_in = λ q. sides_by-append q i.child_in (children_in n r)
      ∙ ap (λ l. l ++ sides_by q (children_in n r)) (h.child_in q)
      ∙ ap (λ l. flat_map (child_sides q) es ++ l) (child_is q n r)
      ∙ sym (flat_map-append (child_sides q) es ((n, r) ∷ []));
  partner_in = λ q. sides_by-append q i.partner_in (partners_in n r)
      ∙ ap (λ l. l ++ sides_by q (partners_in n r)) (h.partner_in q)
      ∙ ap (λ l. flat_map (partner_sides q) es ++ l) (partner_is q n r)
      ∙ sym (flat_map-append (partner_sides q) es ((n, r) ∷ []));
  places = ranked es n r 1 i.places h.places;
  repos = ranked es n r 2 i.repos h.repos;
  sources = ranked es n r 3 i.sources h.sources;
  persons = ranked es n r 4 i.persons h.persons;
  families = ranked es n r 5 i.families h.families;
  entries = ranked es n r 6 i.entries h.entries;
  others = ranked es n r 7 i.others h.others;
}

found_step : (es : List Numbered) (n : ℕ) (o : Option Record) (i : Index) → find nat_cmp n es ≡ None → IsGathered es i
    → IsGathered (es ++ at_number n o) (with_found n o i)
found_step es n None i none h = subst (λ (l : List Numbered). IsGathered l i) (sym (append-nil es)) h
found_step es n (Some r) i none h =
    subst (IsGathered (es ++ (n, r) ∷ [])) (added_is n r i) (both_grown es n r i none h)

bare : IsGathered [] nothing
bare = record {
  letters = λ q. ap letter_with (get-empty nat_cmp q);
  names = λ q. get-empty nat_cmp q;
  events = λ q. refl;
  citations = λ q. refl;
  child_in = λ q. refl;
  partner_in = λ q. refl;
  places = refl;
  repos = refl;
  sources = refl;
  persons = refl;
  families = refl;
  entries = refl;
  others = refl;
}

-- what is gathered of more entries, whose numbers ascend, shows these too
gathered_on : (at : ℕ → Option Record) (front es : List Numbered) (i : Index) → Rises (front ++ es)
    → ((q : ℕ) → at q ≡ find nat_cmp q (front ++ es)) → IsGathered front i
    → IsGathered (front ++ es) (fold (λ (x : Index) n. with_found n (at n) x) i (map (λ (e : Numbered). e.0) es))
gathered_on at front [] i rises agrees h = subst (λ (l : List Numbered). IsGathered l i) (sym (append-nil front)) h
gathered_on at front (e ∷ es) i rises agrees h =
    let here : at e.0 ≡ Some e.1 = agrees e.0 ∙ found_there front e es rises in
    let step : IsGathered (front ++ e ∷ []) (with_found e.0 (at e.0) i) =
    subst (λ (o : Option Record). IsGathered (front ++ at_number e.0 o) (with_found e.0 (at e.0) i)) here
    (found_step front e.0 (at e.0) i (none_before front e es rises) h) in
    let same : (front ++ e ∷ []) ++ es ≡ front ++ e ∷ es = append_assoc front (e ∷ []) es in
    subst (λ (l : List Numbered). IsGathered l
    (fold (λ (x : Index) n. with_found n (at n) x) (with_found e.0 (at e.0) i) (map (λ (x : Numbered). x.0) es))) same
    (gathered_on at (front ++ e ∷ []) es (with_found e.0 (at e.0) i) (subst Rises (sym same) rises)
    (λ q. agrees q ∙ ap (find nat_cmp q) (sym same)) step)

-- what is gathered of all records shows all
pub gathered_is : (m : Records) → IsGathered (entries m) (gathered_of (get m) (keys m))
gathered_is m = gathered_on (get m) [] (entries m) nothing (entries_sorted m) (get-entries m) bare
