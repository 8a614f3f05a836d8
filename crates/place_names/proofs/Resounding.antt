-- A sound archive stays sound where a place has another name, of which paths and lines were looked at.
use Rattle.std.proofs.Common.{
  ◌≡◌,
  ◌⊎◌,
  ℕ,
  ◌<◌,
  List,
  ◌++◌,
  true,
  false,
  refl,
  sym,
  ap,
  ◌∙◌,
  inl,
  inr,
  subst,
  arith,
}
use Rattle.std.specs.Prelude.{
  Option,
  Some,
  None,
  option_map,
  IfSome,
  nat_lt,
  ◌&&◌,
  bytes_eq,
  codes,
  if◌then◌else◌,
}
use Rattle.std.specs.FinMap.{get, insert}
use Rattle.std.specs.List.{flat_map}
use Rattle.std.proofs.lemmas.Bool.{ltb-true}
use Rattle.list_laws.proofs.Numbers.{same_self}
use Rattle.stored_lines.specs.Tree.{Tree}
use Rattle.stored_lines.specs.Line.{Line}
use Rattle.record_text.specs.Text.{IsText}
use Rattle.record_fields.specs.Bytes.{bytes_same}
use Rattle.record_kinds.specs.Model as model
use Rattle.record_kinds.specs.declared.record.Record.{Record}
use Rattle.record_kinds.specs.declared.record.Record.TheVariants as kind
use Rattle.record_shapes.specs.Entries.{entry_of, entry_on}
use Rattle.record_shapes.specs.Forms.{is_some, text_in}
use Rattle.record_shapes.specs.Levels.{AreWithin, HasRoom, room_below}
use Rattle.record_shapes.specs.Lists.{EachOf}
use Rattle.record_shapes.specs.Paths.{IsNormal, IsWithinLimits, has_part}
use Rattle.record_shapes.specs.Tags.{is_event_tag}
use Rattle.record_shapes.specs.Untaken.{HasUntaken}
use Rattle.record_shapes.proofs.Each.{each_back, each_front, each_more, each_of_flat}
use Rattle.record_shapes.proofs.Limits.{limits_are}
use Rattle.archive_state.specs.Content.{Content, Records}
use Rattle.archive_state.specs.Known.{known_before, known_of, path_of, tag_at}
use Rattle.archive_state.specs.Links.{
  Link,
  a_place,
  carried_links,
  field_links,
  is_wanted,
  line_links,
  links,
  mention_links,
  participant_links,
  place_line_links,
  value_links,
}
use Rattle.archive_state.specs.Paths.{HasPath}
use Rattle.archive_state.specs.Sound.{
  HasEventTag,
  HasOwnShape,
  HasSaidPlace,
  IsPerson,
  IsSound,
  Stands,
  owner_in,
  place_of,
}
use Rattle.archive_state.proofs.Keeping.{HasKeys, KeepsRules, Stays, if_there, keeps_sound, kept_rules, stayed_at}
use Rattle.archive_state.proofs.Known.{path_known}
use Rattle.archive_state.proofs.Putting.{put_cases}
use Rattle.command_checks.specs.Fits.{new_path}
use Rattle.record_changes.proofs.Alike.{places_alike}
use Rattle.place_names.specs.Naming.{all_may, any_reads, is_number, known_as, path_only, takes_parent}
use Rattle.place_names.proofs.Reaching.{Named, all_named, before, short_paths}
use Rattle.place_names.proofs.Rereading.{Looked, if_untaken, still_untaken, untaken_if}
use Rattle.place_names.proofs.Shaping.{entry_by_path, place_named}

-- ---- the place of a record is among what it names
line_is : (Q : ℕ → Type 0) (o : Option model.EventPlace) → EachOf (λ (l : Link). Q l.0) (place_line_links o)
    → IfSome (option_map (λ (p : model.EventPlace). p.place) o) Q
line_is Q None h = tt
line_is Q (Some p) h = h.0

field_is : (Q : ℕ → Type 0) (o : Option ℕ) → EachOf (λ (l : Link). Q l.0) (field_links a_place o) → IfSome o Q
field_is Q None h = tt
field_is Q (Some n) h = h.0

place_is : (Q : ℕ → Type 0) (r : Record) → EachOf (λ (l : Link). Q l.0) (links r) → IfSome (place_of r) Q
place_is Q (kind.Event e) h = line_is Q e.place
    (each_front (λ (l : Link). Q l.0) (place_line_links e.place)
    (flat_map participant_links e.participants ++ carried_links e.carried) h.1)
place_is Q (kind.Entry e) h = field_is Q e.place
    (each_front (λ (l : Link). Q l.0) (field_links a_place e.place) (flat_map mention_links e.mentions) h.1)
place_is Q (kind.Place p) h = tt
place_is Q (kind.Repo p) h = tt
place_is Q (kind.Source p) h = tt
place_is Q (kind.Person p) h = tt
place_is Q (kind.Family p) h = tt
place_is Q (kind.Citation p) h = tt
place_is Q (kind.Other p) h = tt

not_some : {A : Type 0} (o : Option A) → is_some o ≡ false → o ≡ None
not_some None e = refl
not_some (Some a) e = absurd cc

module _ (c : Content) (n : ℕ) (old : model.Place) (t : List ℕ) (sound : IsSound c)
    (at : get c.records n ≡ Some (kind.Place old)) where
  abbrev m : Records
  m = c.records

  abbrev p : model.Place
  p = record old { name = t }

  abbrev pub new : Records
  new = insert c.records n (kind.Place p)

  -- ---- what stays of each record but the path of a place
  there : (P : Option Record → Type 0) → (P (Some (kind.Place old)) → P (Some (kind.Place p))) → (x : ℕ) → P (get m x)
      → P (get new x)
  there P f x h = elim (put_cases m n (kind.Place p) x (get new x) refl) as (λ _. P (get new x)) [
    | inl q ↦ subst P q.1 (f (subst P (ap (get m) q.0 ∙ at) h))
    | inr q ↦ subst P q.1 h
  ]

  tag_now : (x : ℕ) → tag_at (get m x) ≡ tag_at (get new x)
  tag_now x = there (λ o. tag_at (get m x) ≡ tag_at o) (λ h. h) x refl

  abbrev pub tags_before : ℕ → List ℕ
  tags_before x = tag_at (get m x)

  abbrev pub tags : ℕ → List ℕ
  tags x = tag_at (get new x)

  pub tags_now : tags_before ≡ tags
  tags_now = λ i x. tag_now x i

  stands : (l : Link) → Stands m l → Stands new l
  stands l h = there (λ o. option_map (is_wanted l.1) o ≡ Some true)
      (λ e. sym (ap Some ((places_alike old p).wanted l.1)) ∙ e) l.0 h

  -- ---- paths
  pub smaller : IfSome old.parent (λ q. q < n)
  smaller = sound.rules.parents n (kind.Place old) at

  path_before : (x : ℕ) → x < n → path_of new x ≡ path_of m x
  path_before x less = before c n p x less

  pub paths_before : (known_before new n).path ≡ (known_before m n).path
  paths_before = λ i x. one x i
    where
      one : (x : ℕ) → (if nat_lt x n then path_of new x else None) ≡ (if nat_lt x n then path_of m x else None)
      one x = elim (nat_lt x n) as (λ b. nat_lt x n ≡ b
          → (if b then path_of new x else None) ≡ (if b then path_of m x else None)) [
            | true ↦ λ e. path_before x (ltb-true x n e)
            | false ↦ λ e. refl
          ] refl

  -- ---- rules that ask for no path
  event : (r : Record) → HasEventTag m r → HasEventTag new r
  event (kind.Event e) h = there (λ o. IfSome o (λ owner. is_event_tag e.tag owner ≡ true)) (λ x. x) e.owner h
  event (kind.Place x) h = tt
  event (kind.Repo x) h = tt
  event (kind.Source x) h = tt
  event (kind.Person x) h = tt
  event (kind.Family x) h = tt
  event (kind.Citation x) h = tt
  event (kind.Entry x) h = tt
  event (kind.Other x) h = tt

  room : (r : Record) → HasRoom (owner_in m r) r → HasRoom (owner_in new r) r
  room (kind.Citation x) h = there (λ o. AreWithin (room_below o) x.carried) (λ y. y) x.owner h
  room (kind.Event x) h = h
  room (kind.Place x) h = h
  room (kind.Repo x) h = h
  room (kind.Source x) h = h
  room (kind.Person x) h = h
  room (kind.Family x) h = h
  room (kind.Entry x) h = h
  room (kind.Other x) h = h

  -- with the tags of afterwards, which are those of before
  retagged : (k : ℕ) (r : Record) → HasUntaken (known_before m k) (known_of m) r
      → HasUntaken (known_before m k) (record { tag = tags; path = path_of m }) r
  retagged k r h = subst (λ f. HasUntaken (known_before m k) (record { tag = f; path = path_of m }) r) tags_now h

  -- ---- where paths and lines were looked at
  module _ (path : List ℕ) (is_new : new_path c.records t old.parent ≡ Some path)
      (may : all_may 32 c n path ≡ true) (unread : any_reads 32 c n path ≡ false) where
    abbrev Looks : ℕ → Record → ℕ → Type 0
    Looks k r j = (path_of new j ≡ path_of m j) ⊎ ((q : List ℕ) × Named c new k r j q)

    looks : (k : ℕ) (r : Record) → get m k ≡ Some r → EachOf (λ (l : Link). Looks k r l.0) (links r)
    looks k r at_k = all_named c n p path smaller is_new may unread k r at_k

    -- ---- rule by rule
    said : (k : ℕ) (r : Record) → get m k ≡ Some r → HasSaidPlace m r → HasSaidPlace new r
    said k r at_k was = by (place_of r) refl (place_is (Looks k r) r (looks k r at_k)) was
      where
        by : (o : Option ℕ) → place_of r ≡ o → IfSome o (Looks k r)
            → IfSome o (λ j. (q : List ℕ) → HasPath m j q → has_part q ≡ true)
            → IfSome o (λ j. (q : List ℕ) → HasPath new j q → has_part q ≡ true)
        by None e l s = tt
        by (Some j) e l s = elim l as (λ _. (q : List ℕ) → HasPath new j q → has_part q ≡ true) [
          | inl same ↦ λ q h. s q ((path_known m j q).1 (sym same ∙ (path_known new j q).0 h))
          | inr f ↦ λ q h.
              let both : Some f.0 ≡ Some q = sym f.1.path ∙ (path_known new j q).0 h in
              let one : f.0 ≡ q = cc in
              ap has_part (sym one) ∙ f.1.said (ap (is_number j) e ∙ same_self j)
        ]

    line_looks : (k : ℕ) (q : model.Place) (j : ℕ) → Looks k (kind.Place q) j → Looked m new k q j
    line_looks k q j l = elim l as (λ _. Looked m new k q j) [
      | inl same ↦ inl same
      | inr f ↦ inr (f.0, f.1.path, f.1.unread)
    ]

    lines_look : (k : ℕ) (q : model.Place) → get m k ≡ Some (kind.Place q)
        → EachOf (λ (t : Tree Line). EachOf (λ (l : Link). Looked m new k q l.0) (line_links t)) q.carried
    lines_look k q at_k =
        each_of_flat (λ (l : Link). Looked m new k q l.0) line_links q.carried
        (each_back (λ (l : Link). Looked m new k q l.0) (field_links a_place q.parent) (carried_links q.carried)
        (each_more (λ (l : Link). Looks k (kind.Place q) l.0) (λ (l : Link). Looked m new k q l.0)
        (λ l h. line_looks k q l.0 h) (links (kind.Place q)) (looks k (kind.Place q) at_k)))

    untaken : (k : ℕ) (r : Record) → get m k ≡ Some r → HasUntaken (known_before m k) (known_of m) r
        → HasUntaken (known_before new k) (known_of new) r
    untaken k (kind.Place q) at_k h = untaken_if (known_before new k) q
        (still_untaken m new k q (lines_look k q at_k) (if_untaken (known_before m k) q h))
    untaken k (kind.Repo x) at_k h = h
    untaken k (kind.Source x) at_k h = retagged k (kind.Source x) h
    untaken k (kind.Person x) at_k h = retagged k (kind.Person x) h
    untaken k (kind.Family x) at_k h = retagged k (kind.Family x) h
    untaken k (kind.Citation x) at_k h = h
    untaken k (kind.Event x) at_k h = retagged k (kind.Event x) h
    untaken k (kind.Entry x) at_k h = tt
    untaken k (kind.Other x) at_k h = tt

    -- ---- records of no other kind
    module _ (k : ℕ) (o : model.Other) (at_k : get m k ≡ Some (kind.Other o)) (entry : o.tag ≡ codes "_REG") where
      abbrev read_with : (ℕ → Option (List ℕ)) → Option model.Entry
      read_with f = entry_of (record { tag = tags; path = f }) o.value o.carried

      abbrev place : Option ℕ
      place = (entry_on (text_in o.value) o.carried).place

      with_paths : (f g : ℕ → Option (List ℕ)) → IfSome place (λ j. f j ≡ g j) → read_with f ≡ read_with g
      with_paths f g h = entry_by_path tags f g o.value o.carried h

      at_zero : path_of new 0 ≡ path_of m 0
      at_zero = path_before 0 (sound.rules.numbered n (kind.Place old) at).0

      by_one : (j : ℕ) (q : List ℕ) → Named c new k (kind.Other o) j q → read_with (path_only j q) ≡ None
      by_one j q named =
          let tagged : bytes_eq o.tag (codes "_REG") ≡ true = bytes_same o.tag (codes "_REG") entry in
          let none : is_some (entry_of (known_as c j q) o.value o.carried) ≡ false =
          sym (ap (λ b. b && is_some (entry_of (known_as c j q) o.value o.carried)) tagged) ∙ named.unread in
          subst (λ f. entry_of (record { tag = f; path = path_only j q }) o.value o.carried ≡ None) tags_now
          (not_some (entry_of (known_as c j q) o.value o.carried) none)

      by_place : (x : Option ℕ) → place ≡ x → IfSome x (Looks k (kind.Other o)) → read_with (path_of m) ≡ None
          → read_with (path_of new) ≡ None
      by_place None e h was =
          with_paths (path_of new) (path_of m)
          (subst (λ y. IfSome y (λ j. path_of new j ≡ path_of m j)) (sym e) tt) ∙ was
      by_place (Some j) e h was = elim h as (λ _. read_with (path_of new) ≡ None) [
        | inl same ↦
            with_paths (path_of new) (path_of m)
            (subst (λ y. IfSome y (λ i. path_of new i ≡ path_of m i)) (sym e) same) ∙ was
        | inr f ↦
            let here : path_of new j ≡ path_only j f.0 j =
            f.1.path ∙ sym (ap (λ b. if b then Some f.0 else None) (same_self j)) in
            with_paths (path_of new) (path_only j f.0)
            (subst (λ y. IfSome y (λ i. path_of new i ≡ path_only j f.0 i)) (sym e) here) ∙ by_one j f.0 f.1
      ]

      no_entry : entry_of (known_of m) o.value o.carried ≡ None → entry_of (known_of new) o.value o.carried ≡ None
      no_entry was =
          by_place place refl
          (place_named (Looks k (kind.Other o)) (inl at_zero) o.value o.carried
          (each_back (λ (l : Link). Looks k (kind.Other o) l.0) (value_links o.value) (carried_links o.carried)
          (looks k (kind.Other o) at_k)))
          (subst (λ f. entry_of (record { tag = f; path = path_of m }) o.value o.carried ≡ None) tags_now was)

    shape : (k : ℕ) (r : Record) → get m k ≡ Some r → HasOwnShape m r → HasOwnShape new r
    shape k (kind.Other o) at_k h = record { own = h.own; no_entry = λ e. no_entry k o at_k e (h.no_entry e) }
    shape k (kind.Event x) at_k h = tt
    shape k (kind.Place x) at_k h = tt
    shape k (kind.Repo x) at_k h = tt
    shape k (kind.Source x) at_k h = tt
    shape k (kind.Person x) at_k h = tt
    shape k (kind.Family x) at_k h = tt
    shape k (kind.Citation x) at_k h = tt
    shape k (kind.Entry x) at_k h = tt

    -- ---- each record keeps the rules
    others_keep : (k : ℕ) (r : Record) → get m k ≡ Some r → KeepsRules c.next new k r
    others_keep k r at_k =
        let was = kept_rules c k r sound at_k in
        record {
          number = was.number;
          named = each_more (Stands m) (Stands new) stands (links r) was.named;
          parents = was.parents;
          normal = was.normal;
          once = was.once;
          tags = was.tags;
          trailers = was.trailers;
          texts = was.texts;
          places = said k r at_k was.places;
          events = event r was.events;
          mentions = was.mentions;
          untaken = untaken k r at_k was.untaken;
          shapes = shape k r at_k was.shapes;
          levels = room r was.levels;
        }

    own_keeps : IsText t → IsNormal t → takes_parent (known_before m n).path p ≡ false
        → KeepsRules c.next new n (kind.Place p)
    own_keeps text normal free =
        let was = kept_rules c n (kind.Place old) sound at in
        record {
          number = was.number;
          named = each_more (Stands m) (Stands new) stands (links (kind.Place p)) was.named;
          parents = was.parents;
          normal = normal;
          once = tt;
          tags = was.tags;
          trailers = tt;
          texts = (text, was.texts.1);
          places = tt;
          events = tt;
          mentions = tt;
          untaken = untaken_if (known_before new n) p (ap (λ f. takes_parent f p) paths_before ∙ free);
          shapes = tt;
          levels = was.levels;
        }

    -- ---- all of the archive
    keys : HasKeys new
    keys k j e at_k there_j = elim (put_cases m n (kind.Place p) k (Some (kind.Entry e)) at_k) as (λ _. k ≡ j) [
      | inl q ↦ let none : Some (kind.Place p) ≡ Some (kind.Entry e) = q.1 in absurd cc
      | inr q ↦ elim (put_cases m n (kind.Place p) j (Some (kind.Entry there_j.0)) there_j.1) as (λ _. k ≡ j) [
        | inl s ↦ let none : Some (kind.Place p) ≡ Some (kind.Entry there_j.0) = s.1 in absurd cc
        | inr s ↦ sound.rules.keys k j e q.1 (there_j.0, s.1, there_j.2)
      ]
    ]

    pub renamed_sound : IsText t → IsNormal t → takes_parent (known_before m n).path p ≡ false
        → IsSound (record c { records = insert c.records n (kind.Place (record old { name = t })) })
    renamed_sound text normal free = keeps_sound c (record c { records = new }) sound (record {
      later = omega arith;
      bounded = sound.bounded;
      records = λ k x e. elim (put_cases m n (kind.Place p) k (Some x) e) as (λ _. Stays m new k x
          ⊎ KeepsRules c.next new k x) [
            | inl h ↦ let same : kind.Place p ≡ x = let f = h.1 in cc in
                inr (subst (λ q. KeepsRules c.next new q x) (sym h.0)
                (subst (KeepsRules c.next new n) same (own_keeps text normal free)))
            | inr h ↦ inr (others_keep k x h.1)
          ];
      distinct = λ k x e. elim (put_cases m n (kind.Place p) k (Some x) e) as (λ _. get c.slips k ≡ None) [
        | inl h ↦ ap (get c.slips) h.0 ∙ sound.distinct n (kind.Place old) at
        | inr h ↦ sound.distinct k x h.1
      ];
      paths = λ k q h. elim (short_paths c n p path smaller is_new may unread k q ((path_known new k q).0 h)) as
          (λ _. IsWithinLimits q) [
            | inl was ↦ sound.rules.paths k q ((path_known m k q).1 was)
            | inr short ↦ limits_are q short
          ];
      keys = keys;
      slips = sound.slips;
      stayed = λ k s e. if_there (get new s.keep) IsPerson
          (λ x at_x. elim (put_cases m n (kind.Place p) s.keep (Some x) at_x) as (λ _. IsPerson x) [
            | inl h ↦ absurd (stayed_at c k n s (kind.Place old) sound e h.0 at)
            | inr h ↦ stayed_at c k s.keep s x sound e refl h.1
          ]);
      free = sound.free;
    })
