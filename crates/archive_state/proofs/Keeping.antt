-- What keeps an archive sound, whatever changes in it: each record was there before, and what it names has stayed
-- alike, or it keeps the rules on records by itself.
use Rattle.std.proofs.Common.{
  ◌≡◌,
  ◌⊎◌,
  ℕ,
  ◌<◌,
  ◌≤◌,
  List,
  ◌∷◌,
  ◌++◌,
  true,
  refl,
  nat_lt,
  sym,
  ap,
  ◌∙◌,
  inl,
  inr,
  subst,
  arith,
}
use Rattle.std.specs.Prelude.{Option, Some, None, option_map, IfSome, if◌then◌else◌}
use Rattle.std.specs.FinMap.{get}
use Rattle.std.specs.List.{list_any, flat_map}
use Rattle.std.specs.Str.{bytes_eq}
use Rattle.record_kinds.specs.Model as model
use Rattle.record_kinds.specs.declared.record.Record.{Record}
use Rattle.record_kinds.specs.declared.record.Record.TheVariants as kind
use Rattle.archive_state.specs.Links.{
  Link,
  Wanted,
  a_place,
  a_person,
  a_holder,
  a_cited,
  at_level_0,
  links,
  field_links,
  place_line_links,
  participant_links,
  mention_links,
  value_links,
  carried_links,
  is_wanted,
}
use Rattle.archive_state.specs.Carried.{carried_tags}
use Rattle.record_text.specs.Text.{IsText}
use Rattle.record_shapes.specs.Lists.{EachOf}
use Rattle.record_shapes.specs.Tags.{event_tags, is_event_tag}
use Rattle.record_shapes.specs.Paths.{IsWithinLimits, has_part}
use Rattle.record_shapes.specs.Levels.{AreWithin, HasRoom, room_below}
use Rattle.record_shapes.specs.Untaken.{HasUntaken}
use Rattle.archive_state.specs.Content.{Content, Records}
use Rattle.archive_state.specs.Entries.{IsEntryAt}
use Rattle.archive_state.specs.Known.{tag_at, written_tag, path_of, known_of, known_before}
use Rattle.archive_state.specs.Paths.{HasPath}
use Rattle.archive_state.specs.Slips.{Slip}
use Rattle.archive_state.specs.Texts.{own_texts, carried_texts}
use Rattle.archive_state.specs.Sound.{
  EachIn,
  IsNumber,
  HasSmallerParent,
  HasNormalName,
  HasMembersOnce,
  HasSaidPlace,
  HasEventTag,
  HasSoundMentions,
  IsNoTrailer,
  own_tags,
  IsOfRecords,
  HasOwnShape,
  owner_in,
  HasSoundRecords,
  Stands,
  IsPerson,
  IsSoundSlip,
  IsSound,
  place_of,
  change_names,
  old_records,
}
use Rattle.archive_state.proofs.Known.{path_known}
use Rattle.archive_state.proofs.Knowing.{AgreeAt, untaken_same, entry_same}
use Rattle.record_shapes.proofs.Each.{each_more, each_zip, each_front, each_back}

-- ---- what stays
-- a record of the kind of another: it is wanted where the other is, has events of the same tags, is written with the
-- same tag, and leaves as much room below it
pub record IsAlike (old r : Record) : Type 0 where
  pub wanted : (w : Wanted) → is_wanted w old ≡ is_wanted w r
  pub events : event_tags old ≡ event_tags r
  pub written : written_tag old ≡ written_tag r
  pub room : room_below (Some old) ≡ room_below (Some r)

pub alike_itself : (r : Record) → IsAlike r r
alike_itself r = record { wanted = λ w. refl; events = refl; written = refl; room = refl }

-- a person is what is wanted as a person
pub person_if : (r : Record) → is_wanted a_person r ≡ true → IsPerson r
person_if (kind.Person p) e = tt
person_if (kind.Place p) e = absurd cc
person_if (kind.Repo p) e = absurd cc
person_if (kind.Source p) e = absurd cc
person_if (kind.Family p) e = absurd cc
person_if (kind.Citation p) e = absurd cc
person_if (kind.Event p) e = absurd cc
person_if (kind.Entry p) e = absurd cc
person_if (kind.Other p) e = absurd cc

wanted_if : (r : Record) → IsPerson r → is_wanted a_person r ≡ true
wanted_if (kind.Person p) h = refl
wanted_if (kind.Place p) h = absurd h
wanted_if (kind.Repo p) h = absurd h
wanted_if (kind.Source p) h = absurd h
wanted_if (kind.Family p) h = absurd h
wanted_if (kind.Citation p) h = absurd h
wanted_if (kind.Event p) h = absurd h
wanted_if (kind.Entry p) h = absurd h
wanted_if (kind.Other p) h = absurd h

-- what is of the kind of a person is one
pub person_alike : (old r : Record) → IsAlike old r → IsPerson old → IsPerson r
person_alike old r alike person = person_if r (sym (alike.wanted a_person) ∙ wanted_if old person)

-- what stands at a number, judged by what it is
pub if_there : (o : Option Record) (P : Record → Type 0) → ((r : Record) → o ≡ Some r → P r) → IfSome o P
if_there None P h = tt
if_there (Some r) P h = h r refl

pub there_is : (o : Option Record) (P : Record → Type 0) → IfSome o P → (r : Record) → o ≡ Some r → P r
there_is o P h r e = subst (λ x. IfSome x P) e h

-- where a record stood, one of its kind stands, and a place has the path that it had
pub record StaysAlike (m after : Records) (n : ℕ) : Type 0 where
  pub alike : (old : Record) → get m n ≡ Some old → (r : Record) × (get after n ≡ Some r) × IsAlike old r
  pub path : path_of m n ≡ path_of after n

-- the record stood at the number before, and all that it names stays alike
pub record Stays (m after : Records) (n : ℕ) (r : Record) : Type 0 where
  pub there : get m n ≡ Some r
  pub named : EachOf (λ (l : Link). StaysAlike m after l.0) (links r)

-- ---- what is judged of one record
-- the record keeps each rule on one record, at a number, among records
pub record KeepsRules (next : ℕ) (m : Records) (n : ℕ) (r : Record) : Type 0 where
  pub number : IsNumber next n
  pub named : EachOf (Stands m) (links r)
  pub parents : HasSmallerParent n r
  pub normal : HasNormalName r
  pub once : HasMembersOnce r
  pub tags : EachOf IsOfRecords (own_tags r ++ carried_tags r)
  pub trailers : IsNoTrailer r
  pub texts : EachOf IsText (own_texts r ++ carried_texts r)
  pub places : HasSaidPlace m r
  pub events : HasEventTag m r
  pub mentions : HasSoundMentions r
  pub untaken : HasUntaken (known_before m n) (known_of m) r
  pub shapes : HasOwnShape m r
  pub levels : HasRoom (owner_in m r) r

-- each record of a sound archive does
pub kept_rules : (c : Content) (n : ℕ) (r : Record) → IsSound c → get c.records n ≡ Some r
    → KeepsRules c.next c.records n r
kept_rules c n r sound at = record {
  number = sound.rules.numbered n r at;
  named = sound.named n r at;
  parents = sound.rules.parents n r at;
  normal = sound.rules.normal n r at;
  once = sound.rules.once n r at;
  tags = sound.rules.tags n r at;
  trailers = sound.rules.trailers n r at;
  texts = sound.rules.texts n r at;
  places = sound.rules.places n r at;
  events = sound.rules.events n r at;
  mentions = sound.rules.mentions n r at;
  untaken = sound.rules.untaken n r at;
  shapes = sound.rules.shapes n r at;
  levels = sound.rules.levels n r at;
}

-- ---- the rules on all records
-- the path of each place is within the limits
abbrev pub HasLimits : Records → Type 0
HasLimits m = (n : ℕ) (path : List ℕ) → HasPath m n path → IsWithinLimits path

-- no two entries agree in source, kind, page and item
abbrev pub HasKeys : Records → Type 0
HasKeys m = (n k : ℕ) (e : model.Entry) → get m n ≡ Some (kind.Entry e)
    → IsEntryAt m e.source e.kind e.page e.item k → n ≡ k

-- from one content to another: what has to hold of what changed
pub record Keeps (c after : Content) : Type 0 where
  -- the next number does not fall, and is at most one more than the last that there is
  pub later : c.next ≤ after.next
  pub bounded : after.next ≤ 4294967296
  -- each record stays, or keeps the rules
  pub records : EachIn after.records (λ n r. Stays c.records after.records n r
      ⊎ KeepsRules after.next after.records n r)
  -- no number is that of a record and of a slip
  pub distinct : EachIn after.records (λ n r. get after.slips n ≡ None)
  pub paths : HasLimits after.records
  pub keys : HasKeys after.records
  pub slips : EachIn after.slips (IsSoundSlip after.next)
  -- a person, or nothing, stands where a slip says that one stays, and no slip stands where one is gone
  pub stayed : EachIn after.slips (λ n s. IfSome (get after.records s.keep) IsPerson)
  pub free : EachIn after.slips (λ n s. get after.slips s.gone ≡ None)

-- ---- what a link names
pub stands_as : (w : Wanted) (o : Option Record) → option_map (is_wanted w) o ≡ Some true → (old : Record)
    × (o ≡ Some old) × (is_wanted w old ≡ true)
stands_as w None h = absurd cc
stands_as w (Some old) h = (old, refl, cc)

-- ---- the place of a record is among what it names
line_named : (Q : Link → Type 0) (o : Option model.EventPlace) → EachOf Q (place_line_links o)
    → IfSome (option_map (λ (p : model.EventPlace). p.place) o) (λ n. Q (n, a_place))
line_named Q None h = tt
line_named Q (Some p) h = h.0

field_named : (Q : Link → Type 0) (o : Option ℕ) → EachOf Q (field_links a_place o) → IfSome o (λ n. Q (n, a_place))
field_named Q None h = tt
field_named Q (Some n) h = h.0

place_named : (Q : Link → Type 0) (r : Record) → EachOf Q (links r) → IfSome (place_of r) (λ n. Q (n, a_place))
place_named Q (kind.Event e) h = line_named Q e.place
    (each_front Q (place_line_links e.place) (flat_map participant_links e.participants ++ carried_links e.carried) h.1)
place_named Q (kind.Entry e) h = field_named Q e.place
    (each_front Q (field_links a_place e.place) (flat_map mention_links e.mentions) h.1)
place_named Q (kind.Place p) h = tt
place_named Q (kind.Repo p) h = tt
place_named Q (kind.Source p) h = tt
place_named Q (kind.Person p) h = tt
place_named Q (kind.Family p) h = tt
place_named Q (kind.Citation p) h = tt
place_named Q (kind.Other p) h = tt

if_both : {A : Type 0} (P Q R : A → Type 0) → ((a : A) → P a → Q a → R a) → (o : Option A) → IfSome o P
    → IfSome o Q → IfSome o R
if_both P Q R f None h k = tt
if_both P Q R f (Some a) h k = f a h k

-- ---- a record that stays keeps the rules
-- nothing stands at 0, before and after
module _ (m after : Records) (none_before : get m 0 ≡ None) (none_after : get after 0 ≡ None) where
  -- a number that stands there, and stays alike
  abbrev Is : Link → Type 0
  Is l = StaysAlike m after l.0 × Stands m l

  are_there : (r : Record) → EachOf (λ (l : Link). StaysAlike m after l.0) (links r) → EachOf (Stands m) (links r)
      → EachOf Is (links r)
  are_there r stays stands = each_zip (λ (l : Link). StaysAlike m after l.0) (Stands m) Is (λ l s t. (s, t))
      (links r) stays stands

  -- what stands there after, of what stood there before
  stood : (l : Link) → Is l → (old : Record) × (get m l.0 ≡ Some old) × (is_wanted l.1 old ≡ true)
      × ((r : Record) × (get after l.0 ≡ Some r) × IsAlike old r)
  stood l h = let old = stands_as l.1 (get m l.0) h.1 in (old.0, old.1, old.2, h.0.alike old.0 old.1)

  -- a link to it stands
  stands_still : (l : Link) → Is l → Stands after l
  stands_still l h =
      let was = stood l h in
      let now = was.3 in
      ap (option_map (is_wanted l.1)) now.1 ∙ ap Some (sym (now.2.wanted l.1) ∙ was.2)

  -- the same is known of it
  tag_still : (l : Link) → Is l → tag_at (get m l.0) ≡ tag_at (get after l.0)
  tag_still l h =
      let was = stood l h in
      let now = was.3 in
      ap tag_at was.1 ∙ now.2.written ∙ sym (ap tag_at now.1)

  known_still : (n : ℕ) → Is (n, at_level_0) → AgreeAt (known_of m) (known_of after) n
  known_still n h = record { tag = tag_still (n, at_level_0) h; path = h.0.path }

  -- nothing is known of 0
  no_path : (o : Records) → get o 0 ≡ None → path_of o 0 ≡ None
  unfolding path_of
  no_path o e = rw e refl

  zero_still : AgreeAt (known_of m) (known_of after) 0
  zero_still = record {
    tag = ap tag_at (none_before ∙ sym none_after);
    path = no_path m none_before
        ∙ sym (no_path after none_after);
  }

  -- ---- rule by rule
  said_still : (r : Record) → EachOf Is (links r) → HasSaidPlace m r → HasSaidPlace after r
  said_still r h said =
      if_both (λ n. Is (n, a_place)) (λ n. (path : List ℕ) → HasPath m n path → has_part path ≡ true)
      (λ n. (path : List ℕ) → HasPath after n path → has_part path ≡ true)
      (λ n is old path there. old path ((path_known m n path).1 (is.0.path ∙ (path_known after n path).0 there)))
      (place_of r) (place_named Is r h) said

  owner_tag : (tag : List ℕ) (n : ℕ) → Is (n, a_holder) → IfSome (get m n) (λ owner. is_event_tag tag owner ≡ true)
      → IfSome (get after n) (λ owner. is_event_tag tag owner ≡ true)
  owner_tag tag n h old =
      let was = stood (n, a_holder) h in
      let now = was.3 in
      let before : is_event_tag tag was.0 ≡ true = subst
      (λ (o : Option Record). IfSome o (λ owner. is_event_tag tag owner ≡ true)) was.1 old in
      subst (λ (o : Option Record). IfSome o (λ owner. is_event_tag tag owner ≡ true)) (sym now.1)
      (ap (list_any (bytes_eq tag)) (sym now.2.events) ∙ before)

  event_still : (r : Record) → EachOf Is (links r) → HasEventTag m r → HasEventTag after r
  event_still (kind.Event e) h old = owner_tag e.tag e.owner h.0 old
  event_still (kind.Place p) h old = tt
  event_still (kind.Repo p) h old = tt
  event_still (kind.Source p) h old = tt
  event_still (kind.Person p) h old = tt
  event_still (kind.Family p) h old = tt
  event_still (kind.Citation p) h old = tt
  event_still (kind.Entry p) h old = tt
  event_still (kind.Other p) h old = tt

  untaken_still : (n : ℕ) (r : Record) → EachOf Is (links r) → HasUntaken (known_before m n) (known_of m) r
      → HasUntaken (known_before after n) (known_of after) r
  untaken_still n r h old = untaken_same Is (known_of m) (known_of after) known_still (known_before m n)
      (known_before after n) r (λ k is. ap (λ x. if nat_lt k n then x else None) is.0.path) h old

  shape_still : (r : Record) → EachOf Is (links r) → HasOwnShape m r → HasOwnShape after r
  shape_still (kind.Other o) h old = record {
    own = old.own;
    no_entry = λ e.
        sym (entry_same Is (known_of m) (known_of after) known_still zero_still o.value o.carried
        (each_back Is (value_links o.value) (carried_links o.carried) h))
        ∙ old.no_entry e;
  }
  shape_still (kind.Event p) h old = tt
  shape_still (kind.Place p) h old = tt
  shape_still (kind.Repo p) h old = tt
  shape_still (kind.Source p) h old = tt
  shape_still (kind.Person p) h old = tt
  shape_still (kind.Family p) h old = tt
  shape_still (kind.Citation p) h old = tt
  shape_still (kind.Entry p) h old = tt

  room_known : (n : ℕ) → Is (n, a_cited) → room_below (get m n) ≡ room_below (get after n)
  room_known n h =
      let was = stood (n, a_cited) h in
      let now = was.3 in
      ap room_below was.1 ∙ now.2.room ∙ sym (ap room_below now.1)

  room_still : (r : Record) → EachOf Is (links r) → HasRoom (owner_in m r) r → HasRoom (owner_in after r) r
  room_still (kind.Citation c) h room = subst (λ k. AreWithin k c.carried) (room_known c.owner h.0) room
  room_still (kind.Event p) h room = room
  room_still (kind.Place p) h room = room
  room_still (kind.Repo p) h room = room
  room_still (kind.Source p) h room = room
  room_still (kind.Person p) h room = room
  room_still (kind.Family p) h room = room
  room_still (kind.Entry p) h room = room
  room_still (kind.Other p) h room = room

  -- a record whose links stay alike keeps the rules that it kept, with a next number that did not fall
  pub rules_still : (next later n : ℕ) (r : Record) → next ≤ later → EachOf (λ (l : Link). StaysAlike m after l.0)
      (links r) → KeepsRules next m n r → KeepsRules later after n r
  rules_still next later n r more stays old =
      let there : EachOf Is (links r) = are_there r stays old.named in
      let less : n < next = old.number.1 in
      record {
        number = (old.number.0, omega arith);
        named = each_more Is (Stands after) stands_still (links r) there;
        parents = old.parents;
        normal = old.normal;
        once = old.once;
        tags = old.tags;
        trailers = old.trailers;
        texts = old.texts;
        places = said_still r there old.places;
        events = event_still r there old.events;
        mentions = old.mentions;
        untaken = untaken_still n r there old.untaken;
        shapes = shape_still r there old.shapes;
        levels = room_still r there old.levels;
      }

-- ---- all of an archive
-- an archive is sound where each record keeps the rules on one record, and the rules on all of them hold
sound_if : (c : Content) → 0 < c.next → c.next ≤ 4294967296 → EachIn c.records (KeepsRules c.next c.records)
    → EachIn c.records (λ n r. get c.slips n ≡ None) → HasLimits c.records → HasKeys c.records
    → EachIn c.slips (IsSoundSlip c.next)
    → EachIn c.slips (λ n s. IfSome (get c.records s.keep) IsPerson)
    → EachIn c.slips (λ n s. get c.slips s.gone ≡ None) → IsSound c
sound_if c begun bounded each distinct paths keys slips stayed free = record {
  begun = begun;
  bounded = bounded;
  distinct = distinct;
  named = λ n r e. (each n r e).named;
  rules = record {
    numbered = λ n r e. (each n r e).number;
    parents = λ n r e. (each n r e).parents;
    normal = λ n r e. (each n r e).normal;
    paths = paths;
    once = λ n r e. (each n r e).once;
    tags = λ n r e. (each n r e).tags;
    trailers = λ n r e. (each n r e).trailers;
    texts = λ n r e. (each n r e).texts;
    places = λ n r e. (each n r e).places;
    events = λ n r e. (each n r e).events;
    mentions = λ n r e. (each n r e).mentions;
    untaken = λ n r e. (each n r e).untaken;
    shapes = λ n r e. (each n r e).shapes;
    levels = λ n r e. (each n r e).levels;
    keys = keys;
  };
  slips = slips;
  stayed = stayed;
  free = free;
}

-- where each record has a number from 1, nothing stands at 0
none_at_zero : (m : Records) → ((r : Record) → get m 0 ≡ Some r → 0 < 0) → get m 0 ≡ None
none_at_zero m h = by (get m 0) refl
  where
    by : (o : Option Record) → get m 0 ≡ o → o ≡ None
    by None e = refl
    by (Some r) e = let less : 0 < 0 = h r e in absurd (omega arith)

pub nothing_at_zero : (c : Content) → IsSound c → get c.records 0 ≡ None
nothing_at_zero c sound = none_at_zero c.records (λ r e. (sound.rules.numbered 0 r e).0)

pub keeps_sound : (c after : Content) → IsSound c → Keeps c after → IsSound after
keeps_sound c after sound keeps =
    let m : Records = c.records in
    let n : Records = after.records in
    let begun : 0 < c.next = sound.begun in
    let later : c.next ≤ after.next = keeps.later in
    let none_before : get m 0 ≡ None = nothing_at_zero c sound in
    let none_after : get n 0 ≡ None = none_at_zero n (λ r e. elim (keeps.records 0 r e) as (λ _. 0 < 0) [
      | inl stays ↦ (sound.rules.numbered 0 r stays.there).0
      | inr new ↦ new.number.0
    ]) in
    sound_if after (omega arith) keeps.bounded
    (λ k r e. elim (keeps.records k r e) as (λ _. KeepsRules after.next n k r) [
      | inl stays ↦ rules_still m n none_before none_after c.next after.next k r later stays.named
          (kept_rules c k r sound stays.there)
      | inr new ↦ new
    ])
    keeps.distinct keeps.paths keeps.keys keeps.slips keeps.stayed keeps.free

-- ---- the next number is a greater one
pub number_later : (a b : ℕ) → a ≤ b → (n : ℕ) → IsNumber a n → IsNumber b n
number_later a b h n k = let less : n < a = k.1 in (k.0, omega arith)

rules_later : (a b : ℕ) → a ≤ b → (m : Records) → HasSoundRecords a m → HasSoundRecords b m
rules_later a b h m rules = record {
  numbered = λ n r e. number_later a b h n (rules.numbered n r e);
  parents = rules.parents;
  normal = rules.normal;
  paths = rules.paths;
  once = rules.once;
  tags = rules.tags;
  trailers = rules.trailers;
  texts = rules.texts;
  places = rules.places;
  events = rules.events;
  mentions = rules.mentions;
  untaken = rules.untaken;
  shapes = rules.shapes;
  levels = rules.levels;
  keys = rules.keys;
}

-- no slip stands at a number from the next one on
pub no_slip_from : (c : Content) (n : ℕ) → IsSound c → c.next ≤ n → get c.slips n ≡ None
no_slip_from c n sound from = by (get c.slips n) refl
  where
    by : (o : Option Slip) → get c.slips n ≡ o → o ≡ None
    by None e = refl
    by (Some s) e = let less : n < c.next = (sound.slips n s e).numbered.0.1 in absurd (omega arith)

-- nor does a slip say that a person stays at one
pub stays_below : (c : Content) (n : ℕ) (s : Slip) → IsSound c → get c.slips n ≡ Some s → c.next ≤ s.keep → ⊥
stays_below c n s sound e from = let less : s.keep < c.next = (sound.slips n s e).numbered.1.0.1 in absurd (omega arith)

-- where a person stood that a slip says to stay
pub stayed_at : (c : Content) (k n : ℕ) (s : Slip) (r : Record) → IsSound c → get c.slips k ≡ Some s → s.keep ≡ n
    → get c.records n ≡ Some r → IsPerson r
stayed_at c k n s r sound e same at = there_is (get c.records s.keep) IsPerson (sound.stayed k s e) r
    (ap (get c.records) same ∙ at)

-- a sound slip stays so
pub slip_later : (a b : ℕ) → a ≤ b → (n : ℕ) (s : Slip) → IsSoundSlip a n s → IsSoundSlip b n s
slip_later a b h n s sound = record {
  numbered = each_more (IsNumber a) (IsNumber b) (number_later a b h)
      (n ∷ (s.keep ∷ (s.gone ∷ flat_map change_names s.changes))) sound.numbered;
  ascending = sound.ascending;
  gone = sound.gone;
  keep = sound.keep;
  apart = sound.apart;
  joinable = sound.joinable;
  merges = sound.merges;
  named = sound.named;
  rules = rules_later a b h (old_records s) sound.rules;
}
