-- What is shown of a record keeps the rules on one record.
use Rattle.std.proofs.Common.{◌≡◌, ℕ, List, [], ◌∷◌, ◌++◌, Bool, true, false, refl, sym, ap, subst, ◌∙◌, arith}
use Rattle.std.specs.Prelude.{Option, Some, None, IfSome, map, option_map, not, codes, ℤ}
use Rattle.std.specs.List.{flat_map, filter}
use Rattle.std.specs.FinMap.{get}
use Rattle.std.specs.Str.{IsAscii}
use Rattle.std.proofs.lemmas.Str.{IsUtf8-from_ascii}
use Rattle.std.proofs.lemmas.Str.Ascii.{IsAscii-cons, IsAscii-nil}
use Rattle.record_kinds.specs.Model as model
use Rattle.record_kinds.specs.declared.record.Record.{Record}
use Rattle.record_kinds.specs.declared.record.Record.TheVariants as kind
use Rattle.record_text.specs.Text.{IsText}
use Rattle.stored_lines.specs.Line.{Lines}
use Rattle.archive_state.specs.Links.{links}
use Rattle.archive_state.specs.Carried.{carried_tags, tags}
use Rattle.record_shapes.specs.Forms.{Known}
use Rattle.record_shapes.specs.Levels.{AreWithin, HasRoom, room_below}
use Rattle.record_shapes.specs.Lists.{EachOf, IsOnce}
use Rattle.record_shapes.specs.Members.{members}
use Rattle.record_shapes.specs.Paths.{has_part}
use Rattle.record_shapes.specs.Tags.{is_event_tag}
use Rattle.record_shapes.specs.Untaken.{
  AreUntaken,
  HasUntaken,
  holding_leaves,
  participant_leaves,
}
use Rattle.record_shapes.specs.Fields.{holding_field, participant_field}
use Rattle.archive_state.specs.Content.{Content, Records}
use Rattle.archive_state.specs.Paths.{Climbs, HasPath, IsPlaceAt}
use Rattle.archive_state.specs.Sound.{HasEventTag, HasSaidPlace, IsOfRecords, Stands, place_of, own_tags}
use Rattle.archive_state.specs.Known.{known_before, known_of}
use Rattle.archive_state.specs.Texts.{there, date_texts, own_texts, carried_texts, line_texts}
use Rattle.archive_state.specs.Sound as sound_rules
use Rattle.archive_state.proofs.Keeping.{KeepsRules}
use Rattle.masking.specs.Masking.{
  Judged,
  Looks,
  IsMasked,
  shown_of,
  shown_name,
  shown_holding,
  shown_partner,
  shown_child,
  shown_participant,
  shown_event_place,
  shown_person,
  is_gone,
}
use Rattle.masking.proofs.Lists.{map_same, flat_same, each_filtered, each_changed, each_single, single_each}
use Rattle.masking.proofs.Named.{links_shown, owner_shown}
use Rattle.masking.proofs.Showing.{bare_carried, came_from}
use Rattle.list_laws.proofs.Outcomes.{if_some}
use Rattle.record_shapes.proofs.Limits.{none_within}
use Rattle.record_shapes.proofs.Each.{each_front, each_back, each_both}

-- ---- what no other record is asked for

room_person : (o : Option Record) (b : Bool) (p : model.Person) → HasRoom o (kind.Person (shown_person b p))
room_person o true p = ((none_within 97, tt), none_within 98)
room_person o false p = (
  each_changed (λ (n : model.Name). AreWithin 97 n.carried) shown_name (λ x. none_within 97) p.names,
  none_within 98,
)

room_place : (o : Option model.EventPlace) → IfSome (option_map shown_event_place o)
    (λ (p : model.EventPlace). AreWithin 96 p.carried)
room_place None = tt
room_place (Some p) = none_within 96

pub room_shown : (j : Judged) (look : Looks) (n : ℕ) (owner : Option Record) (r : Record) → is_gone j look n r ≡ false
    → HasRoom owner (shown_of j n r)
room_shown j look n owner (kind.Place p) gone = none_within 98
room_shown j look n owner (kind.Repo r) gone = none_within 98
room_shown j look n owner (kind.Source s) gone = (
  each_changed (λ (h : model.Holding). AreWithin 97 h.carried) shown_holding (λ x. none_within 97) s.holdings,
  none_within 98,
)
room_shown j look n owner (kind.Person p) gone = room_person owner (j.living n) p
room_shown j look n owner (kind.Family x) gone = (
  each_changed (λ (p : model.Partner). AreWithin 97 p.carried × AreWithin 97 p.carried_by_person) shown_partner
      (λ y. (none_within 97, none_within 97)) x.partners,
  each_changed (λ (c : model.Child). AreWithin 97 c.carried × AreWithin 97 c.carried_by_person) shown_child
      (λ y. (none_within 97, none_within 97)) x.children,
  none_within 98,
)
room_shown j look n owner (kind.Citation c) gone = none_within (room_below owner)
room_shown j look n owner (kind.Event e) gone = (
  room_place e.place,
  each_changed (λ (p : model.Participant). AreWithin 96 p.carried) shown_participant (λ y. none_within 96)
      (filter (λ (p : model.Participant). not (j.living p.person)) e.participants),
  none_within 97,
)
room_shown j look n owner (kind.Entry e) gone = tt
room_shown j look n owner (kind.Other o) gone = absurd cc

untaken_person : (earlier known : Known) (b : Bool) (p : model.Person)
    → HasUntaken earlier known (kind.Person (shown_person b p))
untaken_person earlier known true p = refl
untaken_person earlier known false p = refl

pub untaken_shown : (j : Judged) (look : Looks) (n : ℕ) (earlier known : Known) (r : Record)
    → is_gone j look n r ≡ false → HasUntaken earlier known (shown_of j n r)
untaken_shown j look n earlier known (kind.Place p) gone = refl
untaken_shown j look n earlier known (kind.Repo r) gone = refl
untaken_shown j look n earlier known (kind.Source s) gone = (
  each_changed (λ (h : model.Holding). AreUntaken holding_field (holding_leaves h) h.carried) shown_holding
      (λ x. refl) s.holdings,
  refl,
)
untaken_shown j look n earlier known (kind.Person p) gone = untaken_person earlier known (j.living n) p
untaken_shown j look n earlier known (kind.Family x) gone = refl
untaken_shown j look n earlier known (kind.Citation c) gone = refl
untaken_shown j look n earlier known (kind.Event e) gone = (
  each_changed (λ (p : model.Participant). AreUntaken participant_field (participant_leaves p) p.carried)
      shown_participant (λ x. refl)
      (filter (λ (p : model.Participant). not (j.living p.person)) e.participants),
  refl,
)
untaken_shown j look n earlier known (kind.Entry e) gone = tt
untaken_shown j look n earlier known (kind.Other o) gone = absurd cc

-- ---- texts and tags
living_ascii : IsAscii (codes "Living")
living_ascii =
    IsAscii-cons 76 (105 ∷ 118 ∷ 105 ∷ 110 ∷ 103 ∷ []) (omega arith)
    (IsAscii-cons 105 (118 ∷ 105 ∷ 110 ∷ 103 ∷ []) (omega arith)
    (IsAscii-cons 118 (105 ∷ 110 ∷ 103 ∷ []) (omega arith)
    (IsAscii-cons 105 (110 ∷ 103 ∷ []) (omega arith)
    (IsAscii-cons 110 (103 ∷ []) (omega arith)
    (IsAscii-cons 103 [] (omega arith) IsAscii-nil)))))

living_text : IsText (codes "Living")
living_text = record {
  utf8 = IsUtf8-from_ascii (codes "Living") living_ascii;
  no_nul = refl;
  no_cr = refl;
  short = omega arith;
}

person_texts : (b : Bool) (p : model.Person) → EachOf IsText (own_texts (kind.Person p))
    → EachOf IsText (own_texts (kind.Person (shown_person b p)))
person_texts true p h = (living_text, tt)
person_texts false p h = subst (EachOf IsText)
    (sym (map_same (λ (n : model.Name). n.text) shown_name (λ x. refl) p.names)) h

roles_kept : (keep : model.Participant → Bool) (xs : List model.Participant)
    → EachOf IsText (map (λ (p : model.Participant). p.role) xs)
    → EachOf IsText (map (λ (p : model.Participant). p.role) (map shown_participant (filter keep xs)))
roles_kept keep xs h =
    let role : model.Participant → List ℕ = λ p. p.role in
    subst (EachOf IsText) (sym (map_same role shown_participant (λ x. refl) (filter keep xs)))
    (single_each IsText role (filter keep xs)
    (each_filtered IsText (λ p. role p ∷ []) keep xs (each_single IsText role xs h)))

texts_shown : (j : Judged) (look : Looks) (n : ℕ) (r : Record) → is_gone j look n r ≡ false
    → EachOf IsText (own_texts r) → EachOf IsText (own_texts (shown_of j n r))
texts_shown j look n (kind.Place p) gone h = h
texts_shown j look n (kind.Repo r) gone h = h
texts_shown j look n (kind.Source s) gone h = subst (EachOf IsText)
    (ap (λ l. there s.title ++ (there s.author ++ (there s.publisher ++ l)))
    (sym (flat_same (λ (x : model.Holding). there x.call_number) shown_holding (λ x. refl) s.holdings))) h
texts_shown j look n (kind.Person p) gone h = person_texts (j.living n) p h
texts_shown j look n (kind.Family x) gone h = tt
texts_shown j look n (kind.Citation c) gone h = h
texts_shown j look n (kind.Event e) gone h =
    let role : model.Participant → List ℕ = λ p. p.role in
    let keep : model.Participant → Bool = λ p. not (j.living p.person) in (
      h.0,
      each_both IsText (date_texts e.date) (map role (map shown_participant (filter keep e.participants)))
          (each_front IsText (date_texts e.date) (map role e.participants) h.1)
          (roles_kept keep e.participants (each_back IsText (date_texts e.date) (map role e.participants) h.1)),
    )
texts_shown j look n (kind.Entry e) gone h = h
texts_shown j look n (kind.Other o) gone h = absurd cc

pub all_texts_shown : (j : Judged) (look : Looks) (n : ℕ) (r : Record) → is_gone j look n r ≡ false
    → EachOf IsText (own_texts r ++ carried_texts r)
    → EachOf IsText (own_texts (shown_of j n r) ++ carried_texts (shown_of j n r))
all_texts_shown j look n r gone h =
    each_both IsText (own_texts (shown_of j n r)) (carried_texts (shown_of j n r))
    (texts_shown j look n r gone (each_front IsText (own_texts r) (carried_texts r) h))
    (subst (λ (l : Lines). EachOf IsText (flat_map line_texts l)) (sym (bare_carried j look n r gone)) tt)

tags_same : (j : Judged) (n : ℕ) (r : Record) → own_tags (shown_of j n r) ≡ own_tags r
tags_same j n (kind.Event e) = refl
tags_same j n (kind.Other o) = refl
tags_same j n _ = refl

pub all_tags_shown : (j : Judged) (look : Looks) (n : ℕ) (r : Record) → is_gone j look n r ≡ false
    → EachOf IsOfRecords (own_tags r ++ carried_tags r)
    → EachOf IsOfRecords (own_tags (shown_of j n r) ++ carried_tags (shown_of j n r))
all_tags_shown j look n r gone h =
    each_both IsOfRecords (own_tags (shown_of j n r)) (carried_tags (shown_of j n r))
    (subst (EachOf IsOfRecords) (sym (tags_same j n r)) (each_front IsOfRecords (own_tags r) (carried_tags r) h))
    (subst (λ (l : Lines). EachOf IsOfRecords (flat_map tags l)) (sym (bare_carried j look n r gone)) tt)

-- ---- members
once_family : (x : model.Family) → IsOnce (members x)
    → IsOnce (map (λ (p : model.Partner). p.person) (map shown_partner x.partners)
    ++ map (λ (c : model.Child). c.person) (map shown_child x.children))
once_family x h = subst IsOnce
    (λ i. sym (map_same (λ (p : model.Partner). p.person) shown_partner (λ y. refl) x.partners) i
    ++ sym (map_same (λ (c : model.Child). c.person) shown_child (λ y. refl) x.children) i) h

pub once_shown : (j : Judged) (n : ℕ) (r : Record) → sound_rules.HasMembersOnce r
    → sound_rules.HasMembersOnce (shown_of j n r)
once_shown j n (kind.Family x) h = once_family x h
once_shown j n (kind.Place x) h = tt
once_shown j n _ h = tt

-- ---- rules on one kind
pub parents_shown : (j : Judged) (n : ℕ) (r : Record) → sound_rules.HasSmallerParent n r
    → sound_rules.HasSmallerParent n (shown_of j n r)
parents_shown j n (kind.Place p) h = h
parents_shown j n _ h = tt

pub names_shown : (j : Judged) (n : ℕ) (r : Record) → sound_rules.HasNormalName r
    → sound_rules.HasNormalName (shown_of j n r)
names_shown j n (kind.Place p) h = h
names_shown j n _ h = tt

pub mentions_shown : (j : Judged) (n : ℕ) (r : Record) → sound_rules.HasSoundMentions r
    → sound_rules.HasSoundMentions (shown_of j n r)
mentions_shown j n (kind.Entry e) h = h
mentions_shown j n _ h = tt

pub trailers_shown : (j : Judged) (n : ℕ) (r : Record) → sound_rules.IsNoTrailer r
    → sound_rules.IsNoTrailer (shown_of j n r)
trailers_shown j n (kind.Other o) h = h
trailers_shown j n _ h = tt

pub shapes_shown : (j : Judged) (look : Looks) (m : Records) (n : ℕ) (r : Record) → is_gone j look n r ≡ false
    → sound_rules.HasOwnShape m (shown_of j n r)
shapes_shown j look m n (kind.Other o) gone = absurd cc
shapes_shown j look m n _ gone = tt

-- an event of a tag may be owned by what is shown
event_tag_shown : (j : Judged) (n : ℕ) (tag : List ℕ) (t : Record) → is_event_tag tag (shown_of j n t)
    ≡ is_event_tag tag t
event_tag_shown j n tag (kind.Person p) = refl
event_tag_shown j n tag (kind.Family x) = refl
event_tag_shown j n tag _ = refl

-- what is shown as a place is one, of the same name within the same place
place_back : (j : Judged) (n : ℕ) (p : model.Place) (r : Record) → kind.Place p ≡ shown_of j n r
    → (q : model.Place) × (r ≡ kind.Place q) × (q.name ≡ p.name) × (q.parent ≡ p.parent)
place_back j n p (kind.Place q) e =
    let same : record q { carried = [] } ≡ p = cc in
    (q, refl, ap (λ (x : model.Place). x.name) same, ap (λ (x : model.Place). x.parent) same)
place_back j n p _ e = absurd cc

same_place : (o : Option model.EventPlace)
    → option_map (λ (p : model.EventPlace). p.place) (option_map shown_event_place o)
    ≡ option_map (λ (p : model.EventPlace). p.place) o
same_place None = refl
same_place (Some p) = refl

place_same : (j : Judged) (n : ℕ) (r : Record) → place_of (shown_of j n r) ≡ place_of r
place_same j n (kind.Event e) = same_place e.place
place_same j n (kind.Entry e) = refl
place_same j n _ = refl

module _ (c : Content) (today : ℤ) (d : Content) (h : IsMasked c today d) where
  place_was : (n : ℕ) (p : model.Place) → IsPlaceAt d.records n p
      → (q : model.Place) × IsPlaceAt c.records n q × (q.name ≡ p.name) × (q.parent ≡ p.parent)
  place_was n p at =
      let was = came_from h.judged (get c.records) n (get c.records n) (kind.Place p) (sym (h.records n) ∙ at) in
      let q = place_back h.judged n p was.0 was.3 in
      (q.0, was.1 ∙ ap Some q.1, q.2, q.3)

  climbs_back : (n : ℕ) (names : List (List ℕ)) → Climbs d.records n names → Climbs c.records n names
  climbs_back n [] climbs = climbs
  climbs_back n (name ∷ []) (p, at, called, top) =
      let q = place_was n p at in
      (q.0, q.1, q.2 ∙ called, q.3 ∙ top)
  climbs_back n (name ∷ (above ∷ names)) (p, at, called, (up, is, less, climbs)) =
      let q = place_was n p at in
      (q.0, q.1, q.2 ∙ called, (up, q.3 ∙ is, less, climbs_back up (above ∷ names) climbs))

  -- the path that a place has is the one that it had
  pub path_back : (n : ℕ) (path : List ℕ) → HasPath d.records n path → HasPath c.records n path
  path_back n path (names, climbs, is) = (names, climbs_back n names climbs, is)

  pub said_shown : (n : ℕ) (r : Record) → HasSaidPlace c.records r → HasSaidPlace d.records (shown_of h.judged n r)
  said_shown n r said =
      subst (λ (o : Option ℕ). IfSome o (λ p. (path : List ℕ) → HasPath d.records p path → has_part path ≡ true))
      (sym (place_same h.judged n r))
      (if_some (λ p. (path : List ℕ) → HasPath c.records p path → has_part path ≡ true)
      (λ p. (path : List ℕ) → HasPath d.records p path → has_part path ≡ true)
      (λ p old path there. old path (path_back p path there)) (place_of r) said)

  event_owner : (e : model.Event) → EachOf (Stands c.records) (links (kind.Event e))
      → HasEventTag c.records (kind.Event e) → IfSome (get d.records e.owner) (λ o. is_event_tag e.tag o ≡ true)
  event_owner e named tag =
      let t = owner_shown c today d h e.owner named.0 in
      let before : is_event_tag e.tag t.0 ≡ true = subst
      (λ (o : Option Record). IfSome o (λ owner. is_event_tag e.tag owner ≡ true)) t.1 tag in
      subst (λ (o : Option Record). IfSome o (λ owner. is_event_tag e.tag owner ≡ true)) (sym t.2)
      (event_tag_shown h.judged e.owner e.tag t.0 ∙ before)

  pub events_shown : (n : ℕ) (r : Record) → EachOf (Stands c.records) (links r) → HasEventTag c.records r
      → HasEventTag d.records (shown_of h.judged n r)
  events_shown n (kind.Event e) named tag = event_owner e named tag
  events_shown n _ named tag = tt

  -- all of them
  pub rules_shown : (n : ℕ) (r : Record) → is_gone h.judged (get c.records) n r ≡ false
      → KeepsRules c.next c.records n r → KeepsRules c.next d.records n (shown_of h.judged n r)
  rules_shown n r gone old = record {
    number = old.number;
    named = links_shown c today d h n r gone old.named;
    parents = parents_shown h.judged n r old.parents;
    normal = names_shown h.judged n r old.normal;
    once = once_shown h.judged n r old.once;
    tags = all_tags_shown h.judged (get c.records) n r gone old.tags;
    trailers = trailers_shown h.judged n r old.trailers;
    texts = all_texts_shown h.judged (get c.records) n r gone old.texts;
    places = said_shown n r old.places;
    events = events_shown n r old.named old.events;
    mentions = mentions_shown h.judged n r old.mentions;
    untaken = untaken_shown h.judged (get c.records) n (known_before d.records n) (known_of d.records) r gone;
    shapes = shapes_shown h.judged (get c.records) d.records n r gone;
    levels = room_shown h.judged (get c.records) n
        (sound_rules.owner_in d.records (shown_of h.judged n r)) r gone;
  }
