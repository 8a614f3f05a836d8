-- Records with other numbers are read again from their lines, where of those numbers the same is known.
use Rattle.std.specs.Prelude.{
  ℕ,
  ◌≡◌,
  ◌==◌,
  ◌||◌,
  ◌&&◌,
  true,
  false,
  List,
  [],
  ◌∷◌,
  ◌++◌,
  map,
  length,
  codes,
  Option,
  Some,
  None,
  option_map,
  bytes_eq,
  nat_le,
  refl,
}
use Rattle.std.specs.List.{list_all}
use Rattle.std.proofs.Common.{ap, sym, ◌∙◌, subst, arith, eqb}
use Rattle.std.proofs.lemmas.Bool.{eqb-true}
use Rattle.std.proofs.lemmas.List.{map-append}
use Rattle.stored_lines.specs.Tree.{Tree, Forest, node, list_of, relabel, relabel_all}
use Rattle.record_kinds.specs.Model as model
use Rattle.record_kinds.specs.declared.record.Record.{Record}
use Rattle.record_kinds.specs.declared.record.Record.TheVariants as kind
use Rattle.record_shapes.specs.declared.field.Field.{Field}
use Rattle.record_shapes.specs.Paths.{normal}
use Rattle.record_shapes.specs.Forms.{Known, is_some}
use Rattle.record_shapes.specs.Fields.{
  a_parent,
  a_date,
  a_place,
  carried,
  is_above,
  is_place_text,
  repo_field,
  holding_field,
  source_field,
  citation_field,
  person_field,
  family_field,
  event_field,
  participant_field,
  parent_field,
}
use Rattle.record_shapes.specs.Tags.{person_tags}
use Rattle.record_shapes.specs.Roles.{is_role_of}
use Rattle.record_shapes.specs.Lists.{EachOf, IsOnce}
use Rattle.record_shapes.specs.Members.{members}
use Rattle.record_shapes.specs.Entries.{is_entry, is_said, is_said_path, names_person}
use Rattle.record_shapes.specs.Shapes.{Side, Around}
use Rattle.record_shapes.specs.Untaken.{
  repo_leaves,
  holding_leaves,
  source_leaves,
  citation_leaves,
  person_leaves,
  family_leaves,
  event_leaves,
  place_leaves,
  participant_leaves,
}
use Rattle.record_shapes.specs.Readable.{
  IsKnown,
  IsReadableHolding,
  IsReadableSource,
  IsReadablePerson,
  IsReadablePlace,
  IsReadableCitation,
  IsReadableParticipant,
  HasShownPlace,
  IsCitationBelow,
  IsReadableEvent,
  IsEventBelow,
  IsOwned,
  IsReadableFamily,
  IsReadableOther,
  IsReadable,
}
use Rattle.archive_state.specs.Merging.{
  lines_with,
  holding_with,
  person_with,
  partner_with,
  child_with,
  family_with,
  place_with,
  source_with,
  citation_with,
  event_place_with,
  participant_with,
  event_with,
  link_with,
  mention_with,
  entry_with,
  other_with,
  record_with,
}
use Rattle.round_trip.specs.OrderLaws.{IsAroundWith, side_with}
use Rattle.round_trip.proofs.Renamed.{list_relabelled}
use Rattle.round_trip.proofs.Alike.{
  repo_alike,
  holding_alike,
  citation_alike,
  participant_alike,
  source_alike,
  person_alike,
  family_alike,
  event_alike,
  parent_alike,
  untaken_alike,
}
use Rattle.record_shapes.proofs.Each.{has}
use Rattle.list_laws.proofs.Booleans.{neither, true_not_false}
use Rattle.list_laws.proofs.Numbers.{same_self}

is_some_map : {A B : Type 0} (g : A → B) (o : Option A) → is_some (option_map g o) ≡ is_some o
is_some_map g None = refl
is_some_map g (Some a) = refl

-- ---- places
module _ (f : ℕ → ℕ) (earlier earlier' : Known) (up : (n : ℕ) → earlier'.path (f n) ≡ earlier.path n) where
  place_leaves_same : (x : model.Place) (y : Field) → place_leaves (place_with f x) y ≡ place_leaves x y
  place_leaves_same x carried = refl
  place_leaves_same x a_parent = is_some_map f x.parent
  place_leaves_same x _ = refl

  pub place_alike : (x : model.Place) → IsReadablePlace earlier x → IsReadablePlace earlier' (place_with f x)
  place_alike x g = record {
    normal_name = g.normal_name;
    short_name = g.short_name;
    parent = λ (q : ℕ) (e : option_map f x.parent ≡ Some q). by x.parent q refl e g;
    untaken = untaken_alike f (parent_field earlier x.name) (parent_field earlier' x.name) (place_leaves x)
        (place_leaves (place_with f x)) x.carried (parent_alike f earlier earlier' up x.name) (place_leaves_same x)
        g.untaken;
  }
    where
      by : (o : Option ℕ) (q : ℕ) → x.parent ≡ o → option_map f o ≡ Some q → IsReadablePlace earlier x
          → is_above x.name (earlier'.path q) ≡ true
      by None q z e w = absurd cc
      by (Some i) q z e w = let same : q ≡ f i = cc in ap (λ y. is_above x.name (earlier'.path y)) same
          ∙ ap (is_above x.name) (up i) ∙ w.parent i z

-- ---- entries
module _ (f : ℕ → ℕ) (k j : Known) (h : (n : ℕ) → j.tag (f n) ≡ k.tag n) (p : (n : ℕ) → j.path (f n) ≡ k.path n) where
  said_alike : (o : Option ℕ) → is_said j (option_map f o) ≡ is_said k o
  said_alike None = refl
  said_alike (Some n) = ap is_said_path (p n)

  names_alike : (o : Option model.Link) → names_person j (option_map (link_with f) o) ≡ names_person k o
  names_alike None = refl
  names_alike (Some l) = ap (λ t. bytes_eq t (codes "INDI")) (h l.person)

  length_mentions : (ms : List model.Mention) → length (map (mention_with f) ms) ≡ length ms
  length_mentions [] = refl
  length_mentions (x ∷ ms) = let e : length (map (mention_with f) ms) ≡ length ms = length_mentions ms in omega arith

  mentions_alike : (e : model.Entry) (ms : List model.Mention)
      → list_all (λ (m : model.Mention). is_role_of e.kind m.role && names_person j m.link) (map (mention_with f) ms)
      ≡ list_all (λ (m : model.Mention). is_role_of e.kind m.role && names_person k m.link) ms
  mentions_alike e [] = refl
  mentions_alike e (x ∷ ms) = λ i. (is_role_of e.kind x.role && names_alike x.link i) && mentions_alike e ms i

  pub is_entry_alike : (e : model.Entry) → is_entry j (entry_with f e) ≡ is_entry k e
  is_entry_alike e = λ i. bytes_eq (h e.source i) (codes "SOUR") && (said_alike e.place i
      && (nat_le 1 (length_mentions e.mentions i)
      && (nat_le (length_mentions e.mentions i) 100 && mentions_alike e e.mentions i)))

  -- ---- parts of records
  known_alike : (tag : List ℕ) (n : ℕ) → IsKnown tag k n → IsKnown tag j (f n)
  known_alike tag n e = ap (λ t. bytes_eq t tag) (h n) ∙ e

  holdings_alike : (hs : List model.Holding) → EachOf (IsReadableHolding k) hs
      → EachOf (IsReadableHolding j) (map (holding_with f) hs)
  holdings_alike [] e = tt
  holdings_alike (x ∷ hs) e = (
    (
      known_alike (codes "REPO") x.repo e.0.0,
      untaken_alike f holding_field holding_field (holding_leaves x) (holding_leaves (holding_with f x)) x.carried
          (holding_alike f k j h) (λ y. refl) e.0.1,
    ),
    holdings_alike hs e.1,
  )

  source_reshaped : (s : model.Source) → IsReadableSource k s → IsReadableSource j (source_with f s)
  source_reshaped s e = (
    holdings_alike s.holdings e.0,
    untaken_alike f (source_field k) (source_field j) (source_leaves s) (source_leaves (source_with f s)) s.carried
        (source_alike f k j h) (λ y. refl) e.1,
  )

  citation_reshaped : (c : model.Citation) → IsReadableCitation k c → IsReadableCitation j (citation_with f c)
  citation_reshaped c e = record {
    source = known_alike (codes "SOUR") c.source e.source;
    untaken = untaken_alike f citation_field citation_field (citation_leaves c) (citation_leaves (citation_with f c))
        c.carried (citation_alike f k j h) (λ y. refl) e.untaken;
  }

  participants_alike : (ps : List model.Participant) → EachOf (IsReadableParticipant k) ps
      → EachOf (IsReadableParticipant j) (map (participant_with f) ps)
  participants_alike [] e = tt
  participants_alike (x ∷ ps) e = (
    (
      known_alike (codes "INDI") x.person e.0.0,
      untaken_alike f participant_field participant_field (participant_leaves x)
          (participant_leaves (participant_with f x)) x.carried (participant_alike f k j h) (λ y. refl) e.0.1,
    ),
    participants_alike ps e.1,
  )

  abbrev RR : Tree Record → Tree Record
  RR = relabel (record_with f)

  below_event : (ts : List (Tree Record)) → EachOf (IsCitationBelow k) ts → EachOf (IsCitationBelow j) (map RR ts)
  below_event [] e = tt
  below_event (node (kind.Citation c) fo ∷ ts) e =
      ((ap (relabel_all (record_with f)) e.0.0, citation_reshaped c e.0.1), below_event ts e.1)
  below_event (node _ fo ∷ ts) e = absurd e.0

  event_leaves_same : (e : model.Event) (x : Field) → event_leaves (event_with f e) x ≡ event_leaves e x
  event_leaves_same e carried = refl
  event_leaves_same e a_date = refl
  event_leaves_same e a_place = is_some_map (event_place_with f) e.place
  event_leaves_same e _ = refl

  module _ (a b : Around) (ab : IsAroundWith f a b) where
    has_place : (o : Option model.EventPlace) → HasShownPlace k a o
        → HasShownPlace j b (option_map (event_place_with f) o)
    has_place None e = tt
    has_place (Some x) e =
        let same : b.path (f x.place) ≡ a.path x.place = ab.paths x.place in (
          p x.place ∙ e.0 ∙ ap (λ t. let o : Option (List ℕ) = Some t in o) (sym same),
          ap normal same ∙ e.1
              ∙ sym same,
          ap is_place_text same ∙ e.2,
        )

    event_reshaped : (e : model.Event) (under : List (Tree Record)) → IsReadableEvent k a e under
        → IsReadableEvent j b (event_with f e) (map RR under)
    event_reshaped e under g = record {
      owned = below_event under g.owned;
      place = has_place e.place g.place;
      participants = participants_alike e.participants g.participants;
      untaken = untaken_alike f (event_field k) (event_field j) (event_leaves e) (event_leaves (event_with f e))
          e.carried (event_alike f k j h) (event_leaves_same e) g.untaken;
    }

    events_alike : (tags : List (List ℕ)) (ts : List (Tree Record)) → EachOf (IsEventBelow k a tags) ts
        → EachOf (IsEventBelow j b tags) (map RR ts)
    events_alike tags [] e = tt
    events_alike tags (node (kind.Event x) fo ∷ ts) e = (
      (
        e.0.0,
        subst (IsReadableEvent j b (event_with f x)) (sym (list_relabelled (record_with f) fo))
            (event_reshaped x (list_of fo) e.0.1),
      ),
      events_alike tags ts e.1,
    )
    events_alike tags (node _ fo ∷ ts) e = absurd e.0

    owned_alike : (tags : List (List ℕ)) (under : List (Tree Record)) → IsOwned k a tags under
        → IsOwned j b tags (map RR under)
    owned_alike tags under g = record {
      events = map RR g.events;
      citations = map RR g.citations;
      all = ap (map RR) g.all ∙ map-append RR g.events g.citations;
      are_events = events_alike tags g.events g.are_events;
      are_citations = below_event g.citations g.are_citations;
    }

    sides_alike : (ss : List Side) → EachOf (λ (s : Side). IsKnown (codes "FAM") k s.family) ss
        → EachOf (λ (s : Side). IsKnown (codes "FAM") j s.family) (map (side_with f) ss)
    sides_alike [] e = tt
    sides_alike (s ∷ ss) e = (known_alike (codes "FAM") s.family e.0, sides_alike ss e.1)

    person_reshaped : (n : ℕ) (x : model.Person) (under : List (Tree Record)) → IsReadablePerson k a n x under
        → IsReadablePerson j b (f n) (person_with f x) (map RR under)
    person_reshaped n x under g = record {
      owned = owned_alike person_tags under g.owned;
      child_in = subst (EachOf (λ (s : Side). IsKnown (codes "FAM") j s.family)) (sym (ab.child_in n))
          (sides_alike (a.child_in n) g.child_in);
      partner_in = subst (EachOf (λ (s : Side). IsKnown (codes "FAM") j s.family)) (sym (ab.partner_in n))
          (sides_alike (a.partner_in n) g.partner_in);
      untaken = untaken_alike f (person_field k) (person_field j) (person_leaves x) (person_leaves (person_with f x))
          x.carried (person_alike f k j h) (λ y. refl) g.untaken;
    }

    -- ---- families
    partner_members : (ps : List model.Partner) → map (λ (z : model.Partner). z.person) (map (partner_with f) ps)
        ≡ map f (map (λ (z : model.Partner). z.person) ps)
    partner_members [] = refl
    partner_members (x ∷ ps) = ap (λ ks. f x.person ∷ ks) (partner_members ps)

    child_members : (ps : List model.Child) → map (λ (z : model.Child). z.person) (map (child_with f) ps)
        ≡ map f (map (λ (z : model.Child). z.person) ps)
    child_members [] = refl
    child_members (x ∷ ps) = ap (λ ks. f x.person ∷ ks) (child_members ps)

    members_are : (x : model.Family) → members (family_with f x) ≡ map f (members x)
    members_are x = (λ i. partner_members x.partners i ++ child_members x.children i)
        ∙ sym (map-append f (map (λ (z : model.Partner). z.person) x.partners)
        (map (λ (z : model.Child). z.person) x.children))

    module _ (apart_ : (n : ℕ) → IsKnown (codes "INDI") k n → (i : ℕ) → f i ≡ f n → i ≡ n) where
      map_none : (n : ℕ) (ks : List ℕ) → IsKnown (codes "INDI") k n → has n ks ≡ false → has (f n) (map f ks) ≡ false
      map_none n [] e g = refl
      map_none n (i ∷ ks) e g =
          let both : ((i == n) ≡ false) × (has n ks ≡ false) = neither (i == n) (has n ks) g in
          elim (eqb (f i) (f n)) as (λ b. eqb (f i) (f n) ≡ b → (b || has (f n) (map f ks)) ≡ false) [
            | true ↦ λ z. let same : i ≡ n = apart_ n e i (eqb-true (f i) (f n) z) in
                absurd (true_not_false (sym (ap (λ q. q == n) same ∙ same_self n) ∙ both.0))
            | false ↦ λ z. map_none n ks e both.1
          ] refl

      once_alike : (ks : List ℕ) → EachOf (IsKnown (codes "INDI") k) ks → IsOnce ks → IsOnce (map f ks)
      once_alike [] e g = tt
      once_alike (n ∷ ks) e g = (map_none n ks e.0 g.0, once_alike ks e.1 g.1)

      persons_alike : (ks : List ℕ) → EachOf (IsKnown (codes "INDI") k) ks
          → EachOf (IsKnown (codes "INDI") j) (map f ks)
      persons_alike [] e = tt
      persons_alike (n ∷ ks) e = (known_alike (codes "INDI") n e.0, persons_alike ks e.1)

      family_reshaped : (x : model.Family) (under : List (Tree Record)) → IsReadableFamily k a x under
          → IsReadableFamily j b (family_with f x) (map RR under)
      family_reshaped x under g = record {
        owned = owned_alike _ under g.owned;
        persons = subst (EachOf (IsKnown (codes "INDI") j)) (sym (members_are x)) (persons_alike (members x) g.persons);
        once = subst IsOnce (sym (members_are x)) (once_alike (members x) g.persons g.once);
        untaken = untaken_alike f (family_field k) (family_field j) (λ y. family_leaves y) (λ y. family_leaves y)
            x.carried (family_alike f k j h) (λ y. refl) g.untaken;
      }

      module _ (earlier earlier' : Known) (up : (n : ℕ) → earlier'.path (f n) ≡ earlier.path n) where
        -- ---- all kinds
        pub reshaped : (n : ℕ) (r : Record) (fo : Forest Record)
            → ((o : model.Other) → r ≡ kind.Other o → IsReadableOther k o → IsReadableOther j (other_with f o))
            → IsReadable earlier k a n (node r fo)
            → IsReadable earlier' j b (f n) (node (record_with f r) (relabel_all (record_with f) fo))
        reshaped n (kind.Place x) fo others g =
            (place_alike f earlier earlier' up x g.0, ap (relabel_all (record_with f)) g.1)
        reshaped n (kind.Repo x) fo others g = (
          untaken_alike f repo_field repo_field (repo_leaves x)
              (repo_leaves (record x { carried = lines_with f x.carried })) x.carried (repo_alike f k j h) (λ y. refl)
              g.0,
          ap (relabel_all (record_with f)) g.1,
        )
        reshaped n (kind.Source x) fo others g = (source_reshaped x g.0, ap (relabel_all (record_with f)) g.1)
        reshaped n (kind.Person x) fo others g = subst (IsReadablePerson j b (f n) (person_with f x))
            (sym (list_relabelled (record_with f) fo)) (person_reshaped n x (list_of fo) g)
        reshaped n (kind.Family x) fo others g = subst (IsReadableFamily j b (family_with f x))
            (sym (list_relabelled (record_with f) fo)) (family_reshaped x (list_of fo) g)
        reshaped n (kind.Entry x) fo others g = (
          is_entry_alike x ∙ g.0,
          (λ (q : ℕ) (e : option_map f x.place ≡ Some q). by x.place q refl e g.1),
          ap (relabel_all (record_with f)) g.2,
        )
          where
            by : (o : Option ℕ) (q : ℕ) → x.place ≡ o → option_map f o ≡ Some q
                → ((i : ℕ) → x.place ≡ Some i → k.path i ≡ Some (a.path i)) → j.path q ≡ Some (b.path q)
            by None q z e w = absurd cc
            by (Some i) q z e w = let same : q ≡ f i = cc in
                ap j.path same ∙ p i ∙ w i z ∙ ap (λ t. let o : Option (List ℕ) = Some t in o) (sym (ab.paths i))
                ∙ ap (λ y. let o : Option (List ℕ) = Some (b.path y) in o) (sym same)
        reshaped n (kind.Other x) fo others g = (others x refl g.0, ap (relabel_all (record_with f)) g.1)
        reshaped n (kind.Event x) fo others g = absurd g
        reshaped n (kind.Citation x) fo others g = absurd g
