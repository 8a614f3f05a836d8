-- What a merge keeps: each link stands, and each rule holds.
use Rattle.std.proofs.Common.{
  ◌≡◌,
  ◌⊎◌,
  ℕ,
  ◌<◌,
  ◌≤◌,
  List,
  ◌++◌,
  true,
  false,
  nat_lt,
  refl,
  sym,
  ap,
  ◌∙◌,
  inl,
  inr,
  subst,
  arith,
}
use Rattle.std.specs.Prelude.{Option, Some, None, option_map, IfSome, if◌then◌else◌}
use Rattle.std.specs.FinMap.{get}
use Rattle.std.specs.List.{flat_map, list_any}
use Rattle.std.specs.Str.{bytes_eq}
use Rattle.std.proofs.lemmas.List.{length-map}
use Rattle.std.proofs.lemmas.Option.{IfSome_then}
use Rattle.record_kinds.specs.Model as model
use Rattle.record_kinds.specs.declared.record.Record.{Record}
use Rattle.record_kinds.specs.declared.record.Record.TheVariants as kind
use Rattle.archive_state.specs.Links.{
  Link,
  Wanted,
  a_place,
  a_source,
  a_holder,
  a_cited,
  at_level_0,
  links,
  is_wanted,
  field_links,
  place_line_links,
  participant_links,
  mention_links,
  value_links,
  carried_links,
}
use Rattle.record_shapes.specs.Forms.{Known}
use Rattle.record_shapes.specs.Levels.{HasRoom, room_below}
use Rattle.record_shapes.specs.Lists.{EachOf}
use Rattle.record_shapes.specs.Paths.{has_part}
use Rattle.record_shapes.specs.Roles.{is_role_of}
use Rattle.record_shapes.specs.Tags.{is_event_tag}
use Rattle.record_shapes.specs.Untaken.{HasUntaken}
use Rattle.archive_state.specs.Content.{Content, Records}
use Rattle.archive_state.specs.Known.{tag_at, path_under, path_with, path_of, known_of, known_before}
use Rattle.archive_state.specs.Merging.{
  merged,
  merged_record,
  merged_person,
  joined_person,
  person_with,
  family_with,
  entry_with,
  mention_with,
  event_place_with,
  renamed,
  record_with,
  once_in,
  clashes,
}
use Rattle.archive_state.specs.Paths.{HasPath}
use Rattle.archive_state.specs.Sound.{
  EachIn,
  HasSmallerParent,
  HasNormalName,
  HasMembersOnce,
  HasSaidPlace,
  HasEventTag,
  HasOwnShape,
  HasSoundMentions,
  IsNoTrailer,
  Stands,
  IsSound,
  owner_in,
  place_of,
}
use Rattle.archive_state.proofs.Changing.{cases_of}
use Rattle.archive_state.proofs.Keeping.{IsAlike, KeepsRules, nothing_at_zero, stands_as}
use Rattle.archive_state.proofs.Knowing.{AgreeAt, untaken_same, entry_same}
use Rattle.archive_state.proofs.Known.{path_known, path_same}
use Rattle.merging.proofs.Alike.{persons_alike, alike_merged}
use Rattle.archive_state.proofs.RenumberedEntries.{no_entry_with}
use Rattle.merging.proofs.Keys.{WasEntry}
use Rattle.record_shapes.proofs.Each.{each_mapped, each_more, each_front, each_back}
use Rattle.merging.proofs.Members.{merged_once}
use Rattle.merging.proofs.Merged.{
  renamed_gone,
  renamed_other,
  at_gone,
  at_keep,
  at_other,
  which,
  not_gone,
  map_some,
}
use Rattle.merging.proofs.Once.{join_links, once_into}
use Rattle.merging.proofs.PathsKept.{no_person_path, either_none, no_place_person, no_source_person}
use Rattle.archive_state.proofs.RenumberedLinks.{moved, links_moved}
use Rattle.archive_state.proofs.Texts.{room_with, of_records_with, texts_with}
use Rattle.merging.proofs.Rooms.{room_once, room_joined}
use Rattle.merging.proofs.Tags.{of_records_once, of_records_joined}
use Rattle.merging.proofs.Texts.{texts_once, texts_joined}
use Rattle.archive_state.proofs.Untaken.{through, untaken_with}
use Rattle.merging.proofs.Untaken.{untaken_joined, untaken_any}

module _ (c : Content) (next keep gone : ℕ) (k g : model.Person) (sound : IsSound c) (later : c.next ≤ next)
    (at_k : get c.records keep ≡ Some (kind.Person k)) (at_g : get c.records gone ≡ Some (kind.Person g))
    (apart : keep ≡ gone → ⊥)
    (free : EachIn c.records (λ n r. clashes keep gone r ≡ false))
    (after : Records) (made : (n : ℕ) → get after n ≡ merged keep gone (get c.records) n) where
  abbrev m : Records
  m = c.records

  abbrev f : ℕ → ℕ
  f = renamed keep gone

  abbrev both : model.Person
  both = joined_person (person_with f k) (person_with f g)

  there_keep : get after keep ≡ Some (kind.Person both)
  there_keep = made keep ∙ at_keep keep gone (get m) apart ∙ ap (λ x. merged_person keep gone x (get m gone)) at_k
      ∙ ap (merged_person keep gone (Some (kind.Person k))) at_g

  there_other : (n : ℕ) (r : Record) → (n ≡ gone → ⊥) → (n ≡ keep → ⊥) → get m n ≡ Some r
      → get after n ≡ Some (merged_record keep gone r)
  there_other n r h i at = made n ∙ at_other keep gone (get m) n h i ∙ ap (option_map (merged_record keep gone)) at

  -- what stands there after: the two as one, or a record of before with its numbers changed
  abbrev Came : ℕ → Record → Type 0
  Came n r = ((n ≡ keep) × (kind.Person both ≡ r))
      ⊎ ((old : Record) × (get m n ≡ Some old) × (merged_record keep gone old ≡ r) × (n ≡ gone → ⊥) × (n ≡ keep → ⊥))

  came : (n : ℕ) (r : Record) → get after n ≡ Some r → Came n r
  came n r at = elim (which keep gone n) as (λ _. Came n r) [
    | inl h ↦ let none : None ≡ Some r = sym (at_gone keep gone (get m)) ∙ sym (made gone) ∙ ap (get after) (sym h)
        ∙ at in absurd cc
    | inr h ↦ elim h as (λ _. Came n r) [
      | inl i ↦ let e : Some (kind.Person both) ≡ Some r = sym there_keep ∙ ap (get after) (sym i.1)
          ∙ at in inl (i.1, cc)
      | inr i ↦
          let one = map_some (merged_record keep gone) (get m n) r
          (sym (at_other keep gone (get m) n i.0 i.1) ∙ sym (made n) ∙ at) in
          inr (one.0, one.1, one.2, i.0, i.1)
    ]
  ]

  -- what a number named stands under the number that is named then, and is of its kind
  like_after : (n : ℕ) (x : Record) → get m n ≡ Some x → (y : Record) × (get after (f n) ≡ Some y) × IsAlike x y
  like_after n x at = elim (which keep gone n) as (λ _. (y : Record) × (get after (f n) ≡ Some y) × IsAlike x y) [
    | inl h ↦
        let same : kind.Person g ≡ x = let e : Some (kind.Person g) ≡ Some x = sym at_g
        ∙ ap (get m) (sym h) ∙ at in cc in (
          kind.Person both,
          ap (λ i. get after (f i)) h ∙ ap (get after) (renamed_gone keep gone) ∙ there_keep,
          subst (λ y. IsAlike y (kind.Person both)) same (persons_alike g both),
        )
    | inr h ↦ elim h as (λ _. (y : Record) × (get after (f n) ≡ Some y) × IsAlike x y) [
      | inl i ↦
          let same : kind.Person k ≡ x = let e : Some (kind.Person k) ≡ Some x = sym at_k
          ∙ ap (get m) (sym i.1) ∙ at in cc in (
            kind.Person both,
            ap (get after) (renamed_other keep gone n i.0 ∙ i.1) ∙ there_keep,
            subst (λ y. IsAlike y (kind.Person both)) same (persons_alike k both),
          )
      | inr i ↦ (
        merged_record keep gone x,
        ap (get after) (renamed_other keep gone n i.0) ∙ there_other n x i.0 i.1 at,
        alike_merged keep gone x,
      )
    ]
  ]

  -- ---- links
  stands_moved : (l : Link) → Stands m l → Stands after (moved f l)
  stands_moved l h =
      let old = stands_as l.1 (get m l.0) h in
      let new = like_after l.0 old.0 old.1 in
      ap (option_map (is_wanted l.1)) new.1 ∙ ap Some (sym (new.2.wanted l.1) ∙ old.2)

  with_named : (n : ℕ) (r : Record) → get m n ≡ Some r → EachOf (Stands after) (links (record_with f r))
  with_named n r at = subst (EachOf (Stands after)) (sym (links_moved f r))
      (each_mapped (Stands after) (moved f) (links r)
      (each_more (Stands m) (λ l. Stands after (moved f l)) stands_moved (links r) (sound.named n r at)))

  -- every link stands
  pub merge_named : EachIn after (λ n r. EachOf (Stands after) (links r))
  merge_named n r at = elim (came n r at) as (λ _. EachOf (Stands after) (links r)) [
    | inl h ↦ subst (λ x. EachOf (Stands after) (links x)) h.1
        (join_links (Stands after) (person_with f k) (person_with f g) (with_named keep (kind.Person k) at_k)
        (with_named gone (kind.Person g) at_g))
    | inr h ↦ subst (λ x. EachOf (Stands after) (links x)) h.2
        (once_into (Stands after) keep (record_with f h.0) (with_named n h.0 h.1))
  ]

  -- ---- what is not a person is not gone
  still : (w : Wanted) → ((p : model.Person) → is_wanted w (kind.Person p) ≡ true → ⊥) → (n : ℕ)
      → Stands m (n, w) → f n ≡ n
  still w never n h = renamed_other keep gone n (λ same.
      let old = stands_as w (get m n) h in
      let is : kind.Person g ≡ old.0 = let e : Some (kind.Person g) ≡ Some old.0 = sym at_g ∙ ap (get m) (sym same)
      ∙ old.1 in cc in
      never g (subst (λ x. is_wanted w x ≡ true) (sym is) old.2))

  parent_still : (x : Option ℕ) → EachOf (Stands m) (field_links a_place x) → option_map f x ≡ x
  parent_still None h = refl
  parent_still (Some n) h = ap Some (still a_place no_place_person n h.0)

  parent_at : (n : ℕ) (p : model.Place) → get m n ≡ Some (kind.Place p) → option_map f p.parent ≡ p.parent
  parent_at n p at = parent_still p.parent (each_front (Stands m) (field_links a_place p.parent)
      (carried_links p.carried) (sound.named n (kind.Place p) at))

  -- ---- each rule on a record with its numbers changed
  parents_with : (n : ℕ) (r : Record) → get m n ≡ Some r → HasSmallerParent n (merged_record keep gone r)
  parents_with n (kind.Place p) at = subst (λ x. IfSome x (λ q. q < n)) (sym (parent_at n p at))
      (sound.rules.parents n (kind.Place p) at)
  parents_with n (kind.Repo p) at = tt
  parents_with n (kind.Source p) at = tt
  parents_with n (kind.Person p) at = tt
  parents_with n (kind.Family p) at = tt
  parents_with n (kind.Citation p) at = tt
  parents_with n (kind.Event p) at = tt
  parents_with n (kind.Entry p) at = tt
  parents_with n (kind.Other p) at = tt

  normal_with : (r : Record) → HasNormalName r → HasNormalName (merged_record keep gone r)
  normal_with (kind.Place p) h = h
  normal_with (kind.Repo p) h = tt
  normal_with (kind.Source p) h = tt
  normal_with (kind.Person p) h = tt
  normal_with (kind.Family p) h = tt
  normal_with (kind.Citation p) h = tt
  normal_with (kind.Event p) h = tt
  normal_with (kind.Entry p) h = tt
  normal_with (kind.Other p) h = tt

  once_with : (r : Record) → HasMembersOnce r → clashes keep gone r ≡ false → HasMembersOnce (merged_record keep gone r)
  once_with (kind.Family x) h clash = merged_once keep gone apart x h clash
  once_with (kind.Place p) h clash = tt
  once_with (kind.Repo p) h clash = tt
  once_with (kind.Source p) h clash = tt
  once_with (kind.Person p) h clash = tt
  once_with (kind.Citation p) h clash = tt
  once_with (kind.Event p) h clash = tt
  once_with (kind.Entry p) h clash = tt
  once_with (kind.Other p) h clash = tt

  trailers_with : (r : Record) → IsNoTrailer r → IsNoTrailer (merged_record keep gone r)
  trailers_with (kind.Other p) h = h
  trailers_with (kind.Place p) h = tt
  trailers_with (kind.Repo p) h = tt
  trailers_with (kind.Source p) h = tt
  trailers_with (kind.Person p) h = tt
  trailers_with (kind.Family p) h = tt
  trailers_with (kind.Citation p) h = tt
  trailers_with (kind.Event p) h = tt
  trailers_with (kind.Entry p) h = tt

  mentions_with : (r : Record) → HasSoundMentions r → HasSoundMentions (merged_record keep gone r)
  mentions_with (kind.Entry e) h = (
    subst (λ n. (1 ≤ n) × (n ≤ 100)) (sym (length-map e.mentions (mention_with f))) h.0,
    each_mapped (λ (x : model.Mention). is_role_of e.kind x.role ≡ true) (mention_with f) e.mentions h.1,
  )
  mentions_with (kind.Place p) h = tt
  mentions_with (kind.Repo p) h = tt
  mentions_with (kind.Source p) h = tt
  mentions_with (kind.Person p) h = tt
  mentions_with (kind.Family p) h = tt
  mentions_with (kind.Citation p) h = tt
  mentions_with (kind.Event p) h = tt
  mentions_with (kind.Other p) h = tt

  -- ---- places
  -- a place has its name and the place above it
  path_merged : (n : ℕ) (above : ℕ → Option (List ℕ)) (r : Record) → get m n ≡ Some r
      → path_with n above (Some (merged_record keep gone r)) ≡ path_with n above (Some r)
  path_merged n above (kind.Place p) at = ap (path_under n above p.name) (parent_at n p at)
  path_merged n above (kind.Repo p) at = refl
  path_merged n above (kind.Source p) at = refl
  path_merged n above (kind.Person p) at = refl
  path_merged n above (kind.Family p) at = refl
  path_merged n above (kind.Citation p) at = refl
  path_merged n above (kind.Event p) at = refl
  path_merged n above (kind.Entry p) at = refl
  path_merged n above (kind.Other p) at = refl

  path_there : (n : ℕ) (above : ℕ → Option (List ℕ)) → path_with n above (get after n) ≡ path_with n above (get m n)
  path_there n above = elim (which keep gone n) as (λ _. path_with n above (get after n)
      ≡ path_with n above (get m n)) [
        | inl h ↦ ap (path_with n above) (ap (get after) h ∙ made gone ∙ at_gone keep gone (get m))
            ∙ sym (ap (path_with n above) (ap (get m) h ∙ at_g))
        | inr h ↦ elim h as (λ _. path_with n above (get after n) ≡ path_with n above (get m n)) [
          | inl i ↦ ap (path_with n above) (ap (get after) i.1 ∙ there_keep)
              ∙ sym (ap (path_with n above) (ap (get m) i.1 ∙ at_k))
          | inr i ↦ elim (cases_of m n) as (λ _. path_with n above (get after n) ≡ path_with n above (get m n)) [
            | inl was ↦ ap (path_with n above) (there_other n was.0 i.0 i.1 was.1) ∙ path_merged n above was.0 was.1
                ∙ sym (ap (path_with n above) was.1)
            | inr none ↦ ap (path_with n above) (made n ∙ at_other keep gone (get m) n i.0 i.1
                ∙ ap (option_map (merged_record keep gone)) none) ∙ sym (ap (path_with n above) none)
          ]
        ]
      ]

  -- no path is new, and each is still known
  pub paths_same : (n : ℕ) → path_of after n ≡ path_of m n
  paths_same n = path_same m after path_there n

  pub merge_path : (n : ℕ) (path : List ℕ) → HasPath after n path → HasPath m n path
  merge_path n path h = (path_known m n path).1 (sym (paths_same n) ∙ (path_known after n path).0 h)

  abbrev Said : ℕ → Type 0
  Said x = (path : List ℕ) → HasPath m x path → has_part path ≡ true

  said_after : (r : Record) → HasSaidPlace m r → HasSaidPlace after r
  said_after r said = IfSome_then (place_of r) said (λ x k path h. k path (merge_path x path h))

  said_line : (x : Option model.EventPlace) → EachOf (Stands m) (place_line_links x)
      → IfSome (option_map (λ (p : model.EventPlace). p.place) x) Said
      → IfSome (option_map (λ (p : model.EventPlace). p.place) (option_map (event_place_with f) x)) Said
  said_line None h i = tt
  said_line (Some p) h i = subst Said (sym (still a_place no_place_person p.place h.0)) i

  said_field : (x : Option ℕ) → EachOf (Stands m) (field_links a_place x) → IfSome x Said → IfSome (option_map f x) Said
  said_field None h i = tt
  said_field (Some n) h i = subst Said (sym (still a_place no_place_person n h.0)) i

  said_merged : (n : ℕ) (r : Record) → get m n ≡ Some r → HasSaidPlace m (merged_record keep gone r)
  said_merged n (kind.Event e) at = said_line e.place
      (each_front (Stands m) (place_line_links e.place)
      (flat_map participant_links e.participants ++ carried_links e.carried) (sound.named n (kind.Event e) at).1)
      (sound.rules.places n (kind.Event e) at)
  said_merged n (kind.Entry e) at = said_field e.place
      (each_front (Stands m) (field_links a_place e.place) (flat_map mention_links e.mentions)
      (sound.named n (kind.Entry e) at).1) (sound.rules.places n (kind.Entry e) at)
  said_merged n (kind.Place p) at = tt
  said_merged n (kind.Repo p) at = tt
  said_merged n (kind.Source p) at = tt
  said_merged n (kind.Person p) at = tt
  said_merged n (kind.Family p) at = tt
  said_merged n (kind.Citation p) at = tt
  said_merged n (kind.Other p) at = tt

  -- ---- events
  tag_merged : (n : ℕ) (r : Record) → get m n ≡ Some r → HasEventTag after (merged_record keep gone r)
  tag_merged n (kind.Event e) at =
      let old = stands_as a_holder (get m e.owner) (sound.named n (kind.Event e) at).0 in
      let new = like_after e.owner old.0 old.1 in
      let was : is_event_tag e.tag old.0 ≡ true = subst
      (λ (o : Option Record). IfSome o (λ owner. is_event_tag e.tag owner ≡ true)) old.1
      (sound.rules.events n (kind.Event e) at) in
      subst (λ (o : Option Record). IfSome o (λ owner. is_event_tag e.tag owner ≡ true)) (sym new.1)
      (ap (list_any (bytes_eq e.tag)) (sym new.2.events) ∙ was)
  tag_merged n (kind.Place p) at = tt
  tag_merged n (kind.Repo p) at = tt
  tag_merged n (kind.Source p) at = tt
  tag_merged n (kind.Person p) at = tt
  tag_merged n (kind.Family p) at = tt
  tag_merged n (kind.Citation p) at = tt
  tag_merged n (kind.Entry p) at = tt
  tag_merged n (kind.Other p) at = tt

  -- ---- entries
  entry_from : (n : ℕ) (e : model.Entry) (old : Record) → get m n ≡ Some old
      → merged_record keep gone old ≡ kind.Entry e
      → (d : model.Entry) × (get m n ≡ Some (kind.Entry d)) × (d.source ≡ e.source) × (d.kind ≡ e.kind)
      × (d.page ≡ e.page) × (d.item ≡ e.item)
  entry_from n e (kind.Entry d) at q =
      let same : entry_with f d ≡ e = cc in (
        d,
        at,
        sym (still a_source no_source_person d.source (sound.named n (kind.Entry d) at).0)
            ∙ ap (λ (x : model.Entry). x.source) same,
        ap (λ (x : model.Entry). x.kind) same,
        ap (λ (x : model.Entry). x.page) same,
        ap (λ (x : model.Entry). x.item) same,
      )
  entry_from n e (kind.Place d) at q = absurd cc
  entry_from n e (kind.Repo d) at q = absurd cc
  entry_from n e (kind.Source d) at q = absurd cc
  entry_from n e (kind.Person d) at q = absurd cc
  entry_from n e (kind.Family d) at q = absurd cc
  entry_from n e (kind.Citation d) at q = absurd cc
  entry_from n e (kind.Event d) at q = absurd cc
  entry_from n e (kind.Other d) at q = absurd cc

  pub was_entry : (n : ℕ) → WasEntry m after n
  was_entry n e at = elim (came n (kind.Entry e) at) as (λ _. (d : model.Entry) × (get m n ≡ Some (kind.Entry d))
      × (d.source ≡ e.source) × (d.kind ≡ e.kind) × (d.page ≡ e.page) × (d.item ≡ e.item)) [
        | inl h ↦ let q : kind.Person both ≡ kind.Entry e = h.1 in absurd cc
        | inr h ↦ entry_from n e h.0 h.1 h.2
      ]

  -- ---- what is known of the numbers that they become
  tag_moved : (n : ℕ) → Stands m (n, at_level_0) → tag_at (get m n) ≡ tag_at (get after (f n))
  tag_moved n h =
      let old = stands_as at_level_0 (get m n) h in
      let new = like_after n old.0 old.1 in
      ap tag_at old.1 ∙ new.2.written ∙ sym (ap tag_at new.1)

  path_moved : (n : ℕ) → path_of m n ≡ path_of after (f n)
  path_moved n = elim (which keep gone n) as (λ _. path_of m n ≡ path_of after (f n)) [
    | inl h ↦ no_person_path m n g (ap (get m) h ∙ at_g)
        ∙ sym (paths_same (f n) ∙ no_person_path m (f n) k
        (ap (λ i. get m (f i)) h ∙ ap (get m) (renamed_gone keep gone) ∙ at_k))
    | inr h ↦ elim h as (λ _. path_of m n ≡ path_of after (f n)) [
      | inl i ↦ sym (ap (path_of after) (renamed_other keep gone n i.0) ∙ paths_same n)
      | inr i ↦ sym (ap (path_of after) (renamed_other keep gone n i.0) ∙ paths_same n)
    ]
  ]

  -- of a number that stands, the same tag and path
  known_moved : (n : ℕ) → Stands m (n, at_level_0) → AgreeAt (known_of m) (through f (known_of after)) n
  known_moved n h = record { tag = tag_moved n h; path = path_moved n }

  before_moved : (j n : ℕ) → (if nat_lt n j then path_of m n else None)
      ≡ (if nat_lt (f n) j then path_of after (f n) else None)
  before_moved j n = elim (which keep gone n) as (λ _. (if nat_lt n j then path_of m n else None)
      ≡ (if nat_lt (f n) j then path_of after (f n) else None)) [
        | inl h ↦
            let none : path_of m n ≡ None = no_person_path m n g (ap (get m) h ∙ at_g) in
            either_none (nat_lt n j) (path_of m n) none
            ∙ sym (either_none (nat_lt (f n) j) (path_of after (f n)) (sym (path_moved n) ∙ none))
        | inr h ↦
            let other : n ≡ gone → ⊥ = not_gone keep gone n h in
            ap (λ x. if nat_lt n j then x else None) (path_moved n)
            ∙ ap (λ i. if nat_lt i j then path_of after (f n) else None) (sym (renamed_other keep gone n other))
      ]

  untaken_moved : (n : ℕ) (r : Record) → get m n ≡ Some r → HasUntaken (known_before after n) (known_of after)
      (record_with f r)
  untaken_moved n r at = untaken_with f (known_before after n) (known_of after) r
      (untaken_same (Stands m) (known_of m) (through f (known_of after)) known_moved (known_before m n)
      (through f (known_before after n)) r (λ j h. before_moved n j) (sound.named n r at)
      (sound.rules.untaken n r at))

  -- nothing stands at 0, and it stays itself
  zero_stays : f 0 ≡ 0
  zero_stays = renamed_other keep gone 0
      (λ same. let more : 0 < gone = (sound.rules.numbered gone (kind.Person g) at_g).0 in absurd (omega arith))

  zero_moved : AgreeAt (known_of m) (through f (known_of after)) 0
  zero_moved =
      let none : get m 0 ≡ None = nothing_at_zero c sound in
      let keeps : 0 ≡ keep → ⊥ = λ same. let more : 0 < keep = (sound.rules.numbered keep (kind.Person k) at_k).0 in
      absurd (omega arith) in
      let goes : 0 ≡ gone → ⊥ = λ same. let more : 0 < gone = (sound.rules.numbered gone (kind.Person g) at_g).0 in
      absurd (omega arith) in
      let left : get after 0 ≡ None = made 0 ∙ at_other keep gone (get m) 0 goes keeps
      ∙ ap (option_map (merged_record keep gone)) none in
      record { tag = ap tag_at none ∙ sym (ap tag_at (ap (get after) zero_stays ∙ left)); path = path_moved 0 }

  shape_moved : (n : ℕ) (r : Record) → get m n ≡ Some r → HasOwnShape after (merged_record keep gone r)
  shape_moved n (kind.Other o) at =
      let old = sound.rules.shapes n (kind.Other o) at in record {
        own = old.own;
        no_entry = λ e. no_entry_with f (known_of after) o.value o.carried
            (sym (entry_same (Stands m) (known_of m) (through f (known_of after)) known_moved zero_moved
            o.value o.carried
            (each_back (Stands m) (value_links o.value) (carried_links o.carried) (sound.named n (kind.Other o) at)))
            ∙ old.no_entry e);
      }
  shape_moved n (kind.Place p) at = tt
  shape_moved n (kind.Repo p) at = tt
  shape_moved n (kind.Source p) at = tt
  shape_moved n (kind.Person p) at = tt
  shape_moved n (kind.Family p) at = tt
  shape_moved n (kind.Citation p) at = tt
  shape_moved n (kind.Event p) at = tt
  shape_moved n (kind.Entry p) at = tt

  -- a further field is untaken where a family becomes another of the same carried lines
  untaken_once : (earlier known : Known) (r : Record) → HasUntaken earlier known r
      → HasUntaken earlier known (once_in keep r)
  untaken_once earlier known (kind.Family x) h = h
  untaken_once earlier known (kind.Place p) h = h
  untaken_once earlier known (kind.Repo p) h = h
  untaken_once earlier known (kind.Source p) h = h
  untaken_once earlier known (kind.Person p) h = h
  untaken_once earlier known (kind.Citation p) h = h
  untaken_once earlier known (kind.Event p) h = h
  untaken_once earlier known (kind.Entry p) h = h
  untaken_once earlier known (kind.Other p) h = h

  -- ---- levels
  room_there : (n : ℕ) → Stands m (n, a_cited) → room_below (get m n) ≡ room_below (get after (f n))
  room_there n h =
      let old = stands_as a_cited (get m n) h in
      let new = like_after n old.0 old.1 in
      ap room_below old.1 ∙ new.2.room ∙ sym (ap room_below new.1)

  room_merged : (n : ℕ) (r : Record) → get m n ≡ Some r → HasRoom (owner_in after (merged_record keep gone r))
      (merged_record keep gone r)
  room_merged n (kind.Citation x) at = room_with f (get m x.owner) (get after (f x.owner))
      (room_there x.owner (sound.named n (kind.Citation x) at).0) (kind.Citation x)
      (sound.rules.levels n (kind.Citation x) at)
  room_merged n (kind.Event x) at = room_with f None None refl (kind.Event x) (sound.rules.levels n (kind.Event x) at)
  room_merged n (kind.Place x) at = room_with f None None refl (kind.Place x) (sound.rules.levels n (kind.Place x) at)
  room_merged n (kind.Repo x) at = room_with f None None refl (kind.Repo x) (sound.rules.levels n (kind.Repo x) at)
  room_merged n (kind.Source x) at = room_with f None None refl (kind.Source x)
      (sound.rules.levels n (kind.Source x) at)
  room_merged n (kind.Person x) at = room_with f None None refl (kind.Person x)
      (sound.rules.levels n (kind.Person x) at)
  room_merged n (kind.Family x) at = room_once None keep (kind.Family (family_with f x))
      (room_with f None None refl (kind.Family x) (sound.rules.levels n (kind.Family x) at))
  room_merged n (kind.Entry x) at = tt
  room_merged n (kind.Other x) at = room_with f None None refl (kind.Other x) (sound.rules.levels n (kind.Other x) at)

  -- ---- each record
  merged_keeps : (n : ℕ) (r : Record) → get m n ≡ Some r → EachOf (Stands after) (links (merged_record keep gone r))
      → KeepsRules next after n (merged_record keep gone r)
  merged_keeps n r at named =
      let less : n < c.next = (sound.rules.numbered n r at).1 in
      record {
        number = ((sound.rules.numbered n r at).0, omega arith);
        named = named;
        parents = parents_with n r at;
        normal = normal_with r (sound.rules.normal n r at);
        once = once_with r (sound.rules.once n r at) (free n r at);
        tags = of_records_once keep (record_with f r) (of_records_with f r (sound.rules.tags n r at));
        trailers = trailers_with r (sound.rules.trailers n r at);
        texts = texts_once keep (record_with f r) (texts_with f r (sound.rules.texts n r at));
        places = said_after (merged_record keep gone r) (said_merged n r at);
        events = tag_merged n r at;
        mentions = mentions_with r (sound.rules.mentions n r at);
        untaken = untaken_once (known_before after n) (known_of after) (record_with f r) (untaken_moved n r at);
        shapes = shape_moved n r at;
        levels = room_merged n r at;
      }

  -- the lines of the two and a second sex are untaken
  both_untaken : HasUntaken (known_before after keep) (known_of after) (kind.Person both)
  both_untaken = untaken_joined (known_before after keep) (known_of after) (person_with f k) (person_with f g)
      (untaken_moved keep (kind.Person k) at_k)
      (untaken_any (known_before after gone) (known_before after keep) (known_of after) (person_with f g)
      (untaken_moved gone (kind.Person g) at_g))

  both_keeps : KeepsRules next after keep (kind.Person both)
  both_keeps =
      let less : keep < c.next = (sound.rules.numbered keep (kind.Person k) at_k).1 in
      record {
        number = ((sound.rules.numbered keep (kind.Person k) at_k).0, omega arith);
        named = merge_named keep (kind.Person both) there_keep;
        parents = tt;
        normal = tt;
        once = tt;
        tags = of_records_joined (person_with f k) (person_with f g)
            (of_records_with f (kind.Person k) (sound.rules.tags keep (kind.Person k) at_k))
            (of_records_with f (kind.Person g) (sound.rules.tags gone (kind.Person g) at_g));
        trailers = tt;
        texts = texts_joined (person_with f k) (person_with f g)
            (texts_with f (kind.Person k) (sound.rules.texts keep (kind.Person k) at_k))
            (texts_with f (kind.Person g) (sound.rules.texts gone (kind.Person g) at_g));
        places = tt;
        events = tt;
        mentions = tt;
        untaken = both_untaken;
        shapes = tt;
        levels = room_joined None (person_with f k) (person_with f g)
            (room_with f None None refl (kind.Person k) (sound.rules.levels keep (kind.Person k) at_k))
            (room_with f None None refl (kind.Person g) (sound.rules.levels gone (kind.Person g) at_g));
      }

  pub merge_keeps : EachIn after (KeepsRules next after)
  merge_keeps n r at = elim (came n r at) as (λ _. KeepsRules next after n r) [
    | inl h ↦ subst (λ i. KeepsRules next after i r) (sym h.0) (subst (KeepsRules next after keep) h.1 both_keeps)
    | inr h ↦ subst (KeepsRules next after n) h.2
        (merged_keeps n h.0 h.1 (subst (λ x. EachOf (Stands after) (links x)) (sym h.2) (merge_named n r at)))
  ]
