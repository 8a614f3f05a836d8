-- What undoing a merge keeps: each number of the slip has its new record now, and its old one then. Of what an old
-- record names, there stands what the new one names, of the same kind: the person that stays, for the one that was
-- gone.
use Rattle.std.proofs.Common.{
  ◌≡◌,
  ◌⊎◌,
  ℕ,
  List,
  [],
  ◌∷◌,
  ◌++◌,
  Bool,
  true,
  false,
  nat_lt,
  refl,
  sym,
  ap,
  ◌∙◌,
  inl,
  inr,
  subst,
  arith,
}
use Rattle.std.specs.Prelude.{
  Option,
  Some,
  None,
  option_map,
  IfSome,
  MatchOption,
  codes,
  bytes_eq,
  ◌&&◌,
  ◌||◌,
  if◌then◌else◌,
}
use Rattle.std.specs.FinMap.{get}
use Rattle.std.specs.List.{flat_map, list_all, list_any}
use Rattle.std.proofs.lemmas.Bool.{and_parts, and_from}
use Rattle.std.proofs.lemmas.Option.{IfSome_then}
use Rattle.stored_lines.specs.Tree.{Tree, Forest, node, relabel}
use Rattle.stored_lines.specs.Line.{Line, Lines}
use Rattle.stored_lines.specs.declared.carried.Value.{Value}
use Rattle.stored_lines.specs.declared.carried.Value.TheVariants as value
use Rattle.stored_lines.proofs.Levels.{levels-map}
use Rattle.record_kinds.specs.Model as model
use Rattle.record_kinds.specs.declared.record.Record.{Record}
use Rattle.record_kinds.specs.declared.record.Record.TheVariants as kind
use Rattle.archive_state.specs.Links.{
  Link,
  Wanted,
  a_place,
  a_source,
  a_holder,
  a_cited,
  at_level_0,
  links,
  is_wanted,
  name_links,
  carried_links,
  line_links,
  value_links,
  forest_links,
  field_links,
  place_line_links,
  participant_links,
  mention_links,
}
use Rattle.record_shapes.specs.declared.field.Field.{Field}
use Rattle.record_shapes.specs.Fields as part
use Rattle.record_shapes.specs.Fields.{row, person_field}
use Rattle.record_shapes.specs.Forms.{Known, names_a}
use Rattle.record_shapes.specs.Levels.{AreWithin, HasRoom, room_below}
use Rattle.record_shapes.specs.Lists.{EachOf}
use Rattle.record_shapes.specs.Paths.{has_part}
use Rattle.record_shapes.specs.Tags.{is_event_tag, person_tags}
use Rattle.record_shapes.specs.Untaken.{AreUntaken, HasUntaken, person_leaves}
use Rattle.archive_state.specs.Content.{Records}
use Rattle.archive_state.specs.Known.{tag_at, path_under, path_with, path_of, known_of, known_before}
use Rattle.archive_state.specs.Merging.{
  line_with,
  lines_with,
  merged,
  merged_record,
  merged_person,
  joined_person,
  person_with,
  entry_with,
  event_place_with,
  second_sex,
  renamed,
  record_with,
  once_in,
}
use Rattle.archive_state.specs.Paths.{HasPath}
use Rattle.archive_state.specs.Slips.{Slip}
use Rattle.archive_state.specs.Sound.{
  EachIn,
  HasSaidPlace,
  HasEventTag,
  HasOwnShape,
  HasSoundRecords,
  Stands,
  IsSoundSlip,
  IsPerson,
  IsEmptyPerson,
  old_records,
  owner_in,
  place_of,
}
use Rattle.archive_state.proofs.Changing.{cases_of}
use Rattle.archive_state.proofs.Keeping.{IsAlike, alike_itself, StaysAlike, Stays, KeepsRules, stands_as, there_is}
use Rattle.archive_state.proofs.Knowing.{AgreeAt, untaken_same, entry_same}
use Rattle.archive_state.proofs.Known.{path_known, path_same}
use Rattle.merging.specs.Merges.{over}
use Rattle.merging.proofs.Alike.{alike_back, persons_alike}
use Rattle.archive_state.proofs.RenumberedEntries.{no_entry_back}
use Rattle.merging.proofs.Keys.{WasEntry}
use Rattle.record_shapes.proofs.Each.{each_under, each_more, each_all, each_front, each_back}
use Rattle.merging.proofs.Merged.{
  renamed_gone,
  renamed_other,
  at_gone,
  at_keep,
  at_other,
  which,
  not_gone,
  alike_before,
}
use Rattle.merging.proofs.Once.{joined_links, once_out}
use Rattle.merging.proofs.PathsKept.{no_person_path, either_none, no_place_person, no_source_person}
use Rattle.archive_state.proofs.RenumberedLinks.{moved, links_moved}
use Rattle.archive_state.proofs.Untaken.{through, by_tree, person_by, untaken_back}
use Rattle.merging.proofs.Part.{off}

-- a person, as a record
person_is : (r : Record) → IsPerson r → (p : model.Person) × (r ≡ kind.Person p)
person_is (kind.Person p) h = (p, refl)
person_is (kind.Place p) h = absurd h
person_is (kind.Repo p) h = absurd h
person_is (kind.Source p) h = absurd h
person_is (kind.Family p) h = absurd h
person_is (kind.Citation p) h = absurd h
person_is (kind.Event p) h = absurd h
person_is (kind.Entry p) h = absurd h
person_is (kind.Other p) h = absurd h

-- a person without names and carried lines names nothing
none_named : (P : Link → Type 0) (p : model.Person) → IsEmptyPerson (kind.Person p) → EachOf P (links (kind.Person p))
none_named P p (names, sex, lines) = subst (EachOf P)
    (sym (ap (λ l. flat_map name_links l ++ carried_links p.carried) names ∙ ap carried_links lines)) tt

all_front : (q : Tree Line → Bool) (ts us : Lines) → list_all q (ts ++ us) ≡ true → list_all q ts ≡ true
all_front q [] us h = refl
all_front q (t ∷ ts) us h = let x = and_parts (q t) (list_all q (ts ++ us)) h in
    and_from (q t) (list_all q ts) x.0 (all_front q ts us x.1)

all_back : (q : Tree Line → Bool) (ts us : Lines) → list_all q (ts ++ us) ≡ true → list_all q us ≡ true
all_back q [] us h = h
all_back q (t ∷ ts) us h = all_back q ts us (and_parts (q t) (list_all q (ts ++ us)) h).1

-- ---- lines of a person with a pointer: whoever has them, they are carried, or of a field that leaves none
two_rows : (p q : model.Person) (a b : Bool) → person_leaves p (row a part.a_side (row b part.a_citation part.carried))
    ≡ true → person_leaves q (row a part.a_side (row b part.a_citation part.carried)) ≡ true
two_rows p q true b e = absurd cc
two_rows p q false true e = absurd cc
two_rows p q false false e = refl

pointer_rows : (known : Known) (tag : List ℕ) (n : ℕ) (ts : Forest Line) → person_field known
    (node (record { tag = tag; value = value.Ref n }) ts)
    ≡ row ((bytes_eq tag (codes "FAMC") || bytes_eq tag (codes "FAMS")) && names_a (codes "FAM") known (value.Ref n))
    part.a_side
    (row (bytes_eq tag (codes "SOUR") && names_a (codes "SOUR") known (value.Ref n)) part.a_citation part.carried)
pointer_rows known tag n ts =
    let rest : Field = row ((bytes_eq tag (codes "FAMC") || bytes_eq tag (codes "FAMS")) && names_a (codes "FAM") known
    (value.Ref n)) part.a_side
    (row (bytes_eq tag (codes "SOUR") && names_a (codes "SOUR") known (value.Ref n)) part.a_citation part.carried) in
    off (bytes_eq tag (codes "NAME")) part.a_name
    (row (bytes_eq tag (codes "SEX") && false) part.a_sex
    (row (list_any (bytes_eq tag) person_tags && false) part.an_event rest))
    ∙ off (bytes_eq tag (codes "SEX")) part.a_sex
    (row (list_any (bytes_eq tag) person_tags && false) part.an_event rest)
    ∙ off (list_any (bytes_eq tag) person_tags) part.an_event rest

pointer_leaves : (p q : model.Person) (known : Known) (tag : List ℕ) (n : ℕ) (ts : Forest Line)
    → person_leaves p (person_field known (node (record { tag = tag; value = value.Ref n }) ts)) ≡ true
    → person_leaves q (person_field known (node (record { tag = tag; value = value.Ref n }) ts)) ≡ true
pointer_leaves p q known tag n ts e =
    ap (person_leaves q) (pointer_rows known tag n ts)
    ∙ two_rows p q ((bytes_eq tag (codes "FAMC") || bytes_eq tag (codes "FAMS")) && names_a (codes "FAM") known
    (value.Ref n)) (bytes_eq tag (codes "SOUR") && names_a (codes "SOUR") known (value.Ref n))
    (ap (person_leaves p) (sym (pointer_rows known tag n ts)) ∙ e)

module _ (next number : ℕ) (s : Slip) (slip : IsSoundSlip next number s) where
  abbrev o : Records
  o = old_records s

  abbrev f : ℕ → ℕ
  f = renamed s.keep s.gone

  -- the person that is gone stands among the old ones
  pub gone_there : (p : model.Person) × (get o s.gone ≡ Some (kind.Person p))
  gone_there = let p = person_is slip.gone.0 slip.gone.2 in (p.0, slip.gone.1 ∙ ap Some p.1)

  keep_there : (r : Record) → get o s.keep ≡ Some r → (p : model.Person) × (get o s.keep ≡ Some (kind.Person p))
  keep_there r at =
      let p = person_is r (subst (λ x. MatchOption x ((g : Record) → get o s.gone ≡ Some g → IsEmptyPerson g) IsPerson)
      at slip.keep) in
      (p.0, at ∙ ap Some p.1)

  empty_gone : get o s.keep ≡ None → IsEmptyPerson (kind.Person gone_there.0)
  empty_gone at = (subst (λ x. MatchOption x ((g : Record) → get o s.gone ≡ Some g → IsEmptyPerson g) IsPerson) at
      slip.keep) (kind.Person gone_there.0) gone_there.1

  module _ (m after : Records)
      (put : (n : ℕ) → get after n ≡ over (get o n) (get m n))
      (new : (n : ℕ) (old : Record) → get o n ≡ Some old → get m n ≡ merged s.keep s.gone (get o) n)
      (named : EachIn m (λ n r. EachOf (Stands m) (links r)))
      (stayed : IfSome (get m s.keep) IsPerson) where
    put_old : (n : ℕ) (r : Record) → get o n ≡ Some r → get after n ≡ Some r
    put_old n r at = put n ∙ ap (λ x. over x (get m n)) at

    left : (n : ℕ) → get o n ≡ None → get after n ≡ get m n
    left n at = put n ∙ ap (λ x. over x (get m n)) at

    -- an old record stands there then, or what stands there now
    cases : (n : ℕ) (r : Record) → get after n ≡ Some r → (get o n ≡ Some r) ⊎ ((get o n ≡ None) × (get m n ≡ Some r))
    cases n r at = elim (cases_of o n) as (λ _. (get o n ≡ Some r) ⊎ ((get o n ≡ None) × (get m n ≡ Some r))) [
      | inl old ↦ inl (old.1 ∙ sym (put_old n old.0 old.1) ∙ at)
      | inr none ↦ inr (none, sym (left n none) ∙ at)
    ]

    -- whatever stands there now keeps its kind
    pub like : (n : ℕ) (x : Record) → get m n ≡ Some x → (y : Record) × (get after n ≡ Some y) × IsAlike x y
    like n x at = elim (cases_of o n) as (λ _. (y : Record) × (get after n ≡ Some y) × IsAlike x y) [
      | inl old ↦
          let before = alike_before s.keep s.gone (get o) n x (sym (new n old.0 old.1) ∙ at) in
          (before.0, put_old n before.0 before.1, alike_back before.0 x before.2)
      | inr none ↦ (x, left n none ∙ at, alike_itself x)
    ]

    -- ---- what the old records name
    -- under the number that is named now, something stands now; then something of its kind stands under the old number
    record Back (k : ℕ) : Type 0 where
      x : Record
      y : Record
      now : get m (f k) ≡ Some x
      then_there : get after k ≡ Some y
      alike : IsAlike x y

    back : (l : Link) → Stands m (moved f l) → Back l.0
    back l h =
        let is = stands_as l.1 (get m (f l.0)) h in
        elim (which s.keep s.gone l.0) as (λ _. Back l.0) [
          | inl gone ↦
              let to_keep : f l.0 ≡ s.keep = ap f gone ∙ renamed_gone s.keep s.gone in
              let person = person_is is.0
              (there_is (get m s.keep) IsPerson stayed is.0 (ap (get m) (sym to_keep) ∙ is.1)) in
              record {
                x = kind.Person person.0;
                y = kind.Person gone_there.0;
                now = is.1 ∙ ap Some person.1;
                then_there = ap (get after) gone ∙ put_old s.gone (kind.Person gone_there.0) gone_there.1;
                alike = persons_alike person.0 gone_there.0;
              }
          | inr other ↦
              let apart : l.0 ≡ s.gone → ⊥ = not_gone s.keep s.gone l.0 other in
              let y = like l.0 is.0 (ap (get m) (sym (renamed_other s.keep s.gone l.0 apart)) ∙ is.1) in
              record { x = is.0; y = y.0; now = is.1; then_there = y.1; alike = y.2 }
        ]

    stands_old : (l : Link) → Stands m (moved f l) → Stands after l
    stands_old l h =
        let is = stands_as l.1 (get m (f l.0)) h in
        let b = back l h in
        let same : is.0 ≡ b.x = let e : Some is.0 ≡ Some b.x = sym is.1 ∙ b.now in cc in
        ap (option_map (is_wanted l.1)) b.then_there ∙ ap Some
        (sym (b.alike.wanted l.1) ∙ ap (is_wanted l.1) (sym same) ∙ is.2)

    stands_now : (l : Link) → Stands m l → Stands after l
    stands_now l h =
        let is = stands_as l.1 (get m l.0) h in
        let y = like l.0 is.0 is.1 in
        ap (option_map (is_wanted l.1)) y.1 ∙ ap Some (sym (y.2.wanted l.1) ∙ is.2)

    abbrev Named : Link → Type 0
    Named l = Stands m (moved f l)

    from_new : (r : Record) → EachOf (Stands m) (links (record_with f r)) → EachOf Named (links r)
    from_new r h = each_under (Stands m) (moved f) (links r) (subst (EachOf (Stands m)) (links_moved f r) h)

    -- ---- the two persons, as one
    module _ (k : model.Person) (at_k : get o s.keep ≡ Some (kind.Person k)) where
      abbrev g : model.Person
      g = gone_there.0

      abbrev both : model.Person
      both = joined_person (person_with f k) (person_with f g)

      both_now : get m s.keep ≡ Some (kind.Person both)
      both_now =
          new s.keep (kind.Person k) at_k ∙ at_keep s.keep s.gone (get o) slip.apart
          ∙ ap (λ x. merged_person s.keep s.gone x (get o s.gone)) at_k
          ∙ ap (merged_person s.keep s.gone (Some (kind.Person k))) gone_there.1

      two_named : EachOf Named (links (kind.Person k)) × EachOf Named (links (kind.Person g))
      two_named =
          let two = joined_links (Stands m) (person_with f k) (person_with f g)
          (named s.keep (kind.Person both) both_now) in
          (from_new (kind.Person k) two.0, from_new (kind.Person g) two.1)

    -- any other record
    other_now : (n : ℕ) (r : Record) → get o n ≡ Some r → (n ≡ s.gone → ⊥) → (n ≡ s.keep → ⊥)
        → get m n ≡ Some (merged_record s.keep s.gone r)
    other_now n r at h i = new n r at ∙ at_other s.keep s.gone (get o) n h i
        ∙ ap (option_map (merged_record s.keep s.gone)) at

    other_named : (n : ℕ) (r : Record) → get m n ≡ Some (merged_record s.keep s.gone r) → EachOf Named (links r)
    other_named n r now =
        from_new r (once_out (Stands m) s.keep (record_with f r) (named n (merged_record s.keep s.gone r) now))

    -- an old record is the person that is gone, the one that stays, or one whose numbers changed
    data Old (n : ℕ) (r : Record) : Type 0 where
      is_gone : n ≡ s.gone → r ≡ kind.Person gone_there.0 → Old n r
      is_keep : (k : model.Person) → n ≡ s.keep → get o s.keep ≡ Some (kind.Person k) → r ≡ kind.Person k → Old n r
      is_other : get m n ≡ Some (merged_record s.keep s.gone r) → Old n r

    old_as : (n : ℕ) (r : Record) → get o n ≡ Some r → Old n r
    old_as n r at = elim (which s.keep s.gone n) as (λ _. Old n r) [
      | inl h ↦ is_gone h (let e : Some r ≡ Some (kind.Person gone_there.0) = sym at ∙ ap (get o) h
          ∙ gone_there.1 in cc)
      | inr h ↦ elim h as (λ _. Old n r) [
        | inl i ↦
            let k = keep_there r (ap (get o) (sym i.1) ∙ at) in
            is_keep k.0 i.1 k.1 (let e : Some r ≡ Some (kind.Person k.0) = sym at ∙ ap (get o) i.1 ∙ k.1 in cc)
        | inr i ↦ is_other (other_now n r at i.0 i.1)
      ]
    ]

    -- where a record stands then, one stands now, but for the person that is gone
    pub gone_or_there : (n : ℕ) (r : Record) → get after n ≡ Some r → (n ≡ s.gone) ⊎ ((x : Record) × (get m n ≡ Some x))
    gone_or_there n r at = elim (cases n r at) as (λ _. (n ≡ s.gone) ⊎ ((x : Record) × (get m n ≡ Some x))) [
      | inl old ↦ by (old_as n r old)
      | inr now ↦ inr (r, now.1)
    ]
      where
        by : Old n r → (n ≡ s.gone) ⊎ ((x : Record) × (get m n ≡ Some x))
        by (is_gone h e) = inl h
        by (is_keep k h there e) = inr (kind.Person (both k there), ap (get m) h ∙ both_now k there)
        by (is_other now) = inr (merged_record s.keep s.gone r, now)

    -- and the person that is gone stands then
    pub person_then : get after s.gone ≡ Some (kind.Person gone_there.0)
    person_then = put_old s.gone (kind.Person gone_there.0) gone_there.1

    old_named : (n : ℕ) (r : Record) → Old n r → EachOf Named (links r)
    old_named n r (is_gone h e) = elim (cases_of o s.keep) as (λ _. EachOf Named (links r)) [
      | inl kept ↦ let k = keep_there kept.0 kept.1 in subst (λ x. EachOf Named (links x)) (sym e) (two_named k.0 k.1).1
      | inr none ↦ subst (λ x. EachOf Named (links x)) (sym e) (none_named Named gone_there.0 (empty_gone none))
    ]
    old_named n r (is_keep k h at e) = subst (λ x. EachOf Named (links x)) (sym e) (two_named k at).0
    old_named n r (is_other now) = other_named n r now

    -- every link stands
    pub undo_named : EachIn after (λ n r. EachOf (Stands after) (links r))
    undo_named n r at = elim (cases n r at) as (λ _. EachOf (Stands after) (links r)) [
      | inl old ↦ each_more Named (Stands after) stands_old (links r) (old_named n r (old_as n r old))
      | inr now ↦ each_more (Stands m) (Stands after) stands_now (links r) (named n r now.1)
    ]

    -- ---- what is no person is named by the same number
    still : (w : Wanted) → ((p : model.Person) → is_wanted w (kind.Person p) ≡ true → ⊥) → (n : ℕ)
        → Named (n, w) → f n ≡ n
    still w never n h = renamed_other s.keep s.gone n (λ gone.
        let is = stands_as w (get m (f n)) h in
        let person = person_is is.0
        (there_is (get m s.keep) IsPerson stayed is.0
        (ap (get m) (sym (ap f gone ∙ renamed_gone s.keep s.gone)) ∙ is.1)) in
        never person.0 (ap (is_wanted w) (sym person.1) ∙ is.2))

    -- ---- places
    parent_still : (x : Option ℕ) → EachOf Named (field_links a_place x) → option_map f x ≡ x
    parent_still None h = refl
    parent_still (Some n) h = ap Some (still a_place no_place_person n h.0)

    path_merged : (n : ℕ) (above : ℕ → Option (List ℕ)) (r : Record) → EachOf Named (links r)
        → path_with n above (Some r) ≡ path_with n above (Some (merged_record s.keep s.gone r))
    path_merged n above (kind.Place p) h = ap (path_under n above p.name)
        (sym (parent_still p.parent (each_front Named (field_links a_place p.parent) (carried_links p.carried) h)))
    path_merged n above (kind.Repo p) h = refl
    path_merged n above (kind.Source p) h = refl
    path_merged n above (kind.Person p) h = refl
    path_merged n above (kind.Family p) h = refl
    path_merged n above (kind.Citation p) h = refl
    path_merged n above (kind.Event p) h = refl
    path_merged n above (kind.Entry p) h = refl
    path_merged n above (kind.Other p) h = refl

    path_old : (n : ℕ) (above : ℕ → Option (List ℕ)) (r : Record) → get o n ≡ Some r → Old n r
        → path_with n above (Some r) ≡ path_with n above (get m n)
    path_old n above r at (is_gone h e) = ap (λ x. path_with n above (Some x)) e
        ∙ sym (ap (path_with n above) (new n r at ∙ ap (merged s.keep s.gone (get o)) h
        ∙ at_gone s.keep s.gone (get o)))
    path_old n above r at (is_keep k h there e) = ap (λ x. path_with n above (Some x)) e
        ∙ sym (ap (path_with n above) (ap (get m) h ∙ both_now k there))
    path_old n above r at (is_other now) = path_merged n above r (other_named n r now)
        ∙ sym (ap (path_with n above) now)

    path_there : (n : ℕ) (above : ℕ → Option (List ℕ)) → path_with n above (get after n) ≡ path_with n above (get m n)
    path_there n above = elim (cases_of o n) as (λ _. path_with n above (get after n) ≡ path_with n above (get m n)) [
      | inl old ↦ ap (path_with n above) (put_old n old.0 old.1) ∙ path_old n above old.0 old.1 (old_as n old.0 old.1)
      | inr none ↦ ap (path_with n above) (left n none)
    ]

    pub paths_same : (n : ℕ) → path_of after n ≡ path_of m n
    paths_same n = path_same m after path_there n

    pub undo_path : (n : ℕ) (path : List ℕ) → HasPath after n path → HasPath m n path
    undo_path n path h = (path_known m n path).1 (sym (paths_same n) ∙ (path_known after n path).0 h)

    abbrev Said : Records → ℕ → Type 0
    Said x k = (path : List ℕ) → HasPath x k path → has_part path ≡ true

    said_line : (x : Option model.EventPlace) → EachOf Named (place_line_links x)
        → IfSome (option_map (λ (p : model.EventPlace). p.place) (option_map (event_place_with f) x)) (Said m)
        → IfSome (option_map (λ (p : model.EventPlace). p.place) x) (Said m)
    said_line None h k = tt
    said_line (Some p) h k = subst (Said m) (still a_place no_place_person p.place h.0) k

    said_field : (x : Option ℕ) → EachOf Named (field_links a_place x) → IfSome (option_map f x) (Said m)
        → IfSome x (Said m)
    said_field None h k = tt
    said_field (Some n) h k = subst (Said m) (still a_place no_place_person n h.0) k

    said_back : (r : Record) → EachOf Named (links r) → HasSaidPlace m (merged_record s.keep s.gone r)
        → HasSaidPlace m r
    said_back (kind.Event e) h k = said_line e.place
        (each_front Named (place_line_links e.place)
        (flat_map participant_links e.participants ++ carried_links e.carried) h.1) k
    said_back (kind.Entry e) h k = said_field e.place
        (each_front Named (field_links a_place e.place) (flat_map mention_links e.mentions) h.1) k
    said_back (kind.Place p) h k = tt
    said_back (kind.Repo p) h k = tt
    said_back (kind.Source p) h k = tt
    said_back (kind.Person p) h k = tt
    said_back (kind.Family p) h k = tt
    said_back (kind.Citation p) h k = tt
    said_back (kind.Other p) h k = tt

    said_after : (r : Record) → HasSaidPlace m r → HasSaidPlace after r
    said_after r said = IfSome_then (place_of r) said (λ k h path there. h path (undo_path k path there))

    -- ---- events
    tag_back : (r : Record) → EachOf Named (links r) → HasEventTag m (merged_record s.keep s.gone r)
        → HasEventTag after r
    tag_back (kind.Event e) h k =
        let b = back (e.owner, a_holder) h.0 in
        let was : is_event_tag e.tag b.x ≡ true = there_is (get m (f e.owner))
        (λ owner. is_event_tag e.tag owner ≡ true) k b.x b.now in
        subst (λ (x : Option Record). IfSome x (λ owner. is_event_tag e.tag owner ≡ true)) (sym b.then_there)
        (ap (list_any (bytes_eq e.tag)) (sym b.alike.events) ∙ was)
    tag_back (kind.Place p) h k = tt
    tag_back (kind.Repo p) h k = tt
    tag_back (kind.Source p) h k = tt
    tag_back (kind.Person p) h k = tt
    tag_back (kind.Family p) h k = tt
    tag_back (kind.Citation p) h k = tt
    tag_back (kind.Entry p) h k = tt
    tag_back (kind.Other p) h k = tt

    -- ---- what is known of what the old records name
    path_back : (k : ℕ) → Named (k, at_level_0) → path_of m (f k) ≡ path_of after k
    path_back k h = elim (which s.keep s.gone k) as (λ _. path_of m (f k) ≡ path_of after k) [
      | inl gone ↦
          let is = stands_as at_level_0 (get m (f k)) h in
          let person = person_is is.0
          (there_is (get m s.keep) IsPerson stayed is.0
          (ap (get m) (sym (ap f gone ∙ renamed_gone s.keep s.gone)) ∙ is.1)) in
          no_person_path m (f k) person.0 (is.1 ∙ ap Some person.1)
          ∙ sym (no_person_path after k gone_there.0
          (ap (get after) gone ∙ put_old s.gone (kind.Person gone_there.0) gone_there.1))
      | inr other ↦
          let apart : k ≡ s.gone → ⊥ = not_gone s.keep s.gone k other in
          ap (path_of m) (renamed_other s.keep s.gone k apart) ∙ sym (paths_same k)
    ]

    known_back : (k : ℕ) → Named (k, at_level_0) → AgreeAt (through f (known_of m)) (known_of after) k
    known_back k h =
        let b = back (k, at_level_0) h in
        record { tag = ap tag_at b.now ∙ b.alike.written ∙ sym (ap tag_at b.then_there); path = path_back k h }

    before_back : (j k : ℕ) → Named (k, at_level_0) → (if nat_lt (f k) j then path_of m (f k) else None)
        ≡ (if nat_lt k j then path_of after k else None)
    before_back j k h = elim (which s.keep s.gone k) as (λ _. (if nat_lt (f k) j then path_of m (f k) else None)
        ≡ (if nat_lt k j then path_of after k else None)) [
          | inl gone ↦
              let none : path_of after k ≡ None = no_person_path after k gone_there.0
              (ap (get after) gone ∙ put_old s.gone (kind.Person gone_there.0) gone_there.1) in
              either_none (nat_lt (f k) j) (path_of m (f k)) (path_back k h ∙ none)
              ∙ sym (either_none (nat_lt k j) (path_of after k) none)
          | inr other ↦
              let apart : k ≡ s.gone → ⊥ = not_gone s.keep s.gone k other in
              ap (λ x. if nat_lt (f k) j then x else None) (path_back k h)
              ∙ ap (λ i. if nat_lt i j then path_of after k else None) (renamed_other s.keep s.gone k apart)
        ]

    once_untaken : (earlier known : Known) (r : Record) → HasUntaken earlier known (once_in s.keep r)
        → HasUntaken earlier known r
    once_untaken earlier known (kind.Family x) h = h
    once_untaken earlier known (kind.Place p) h = h
    once_untaken earlier known (kind.Repo p) h = h
    once_untaken earlier known (kind.Source p) h = h
    once_untaken earlier known (kind.Person p) h = h
    once_untaken earlier known (kind.Citation p) h = h
    once_untaken earlier known (kind.Event p) h = h
    once_untaken earlier known (kind.Entry p) h = h
    once_untaken earlier known (kind.Other p) h = h

    other_untaken : (n : ℕ) (r : Record) → EachOf Named (links r) → HasUntaken (known_before m n) (known_of m)
        (merged_record s.keep s.gone r) → HasUntaken (known_before after n) (known_of after) r
    other_untaken n r h u =
        untaken_same Named (through f (known_of m)) (known_of after) known_back (through f (known_before m n))
        (known_before after n) r (λ k is. before_back n k is) h
        (untaken_back f (known_before m n) (known_of m) r
        (once_untaken (known_before m n) (known_of m) (record_with f r) u))

    -- a line of one of the two: a text by what the slip says, a pointer by what stands now
    person_line : (p q : model.Person) (t : Tree Line) → EachOf Named (line_links t)
        → person_leaves p (person_field (known_of o) t) ≡ true
        → person_leaves q (person_field (known_of m) (relabel (line_with f) t)) ≡ true
        → person_leaves p (person_field (known_of after) t) ≡ true
    person_line p q (node l ts) h old now = by l.value h old
        (ap (person_leaves q)
        (sym (by_tree f (person_field (known_of m)) (person_field (through f (known_of m))) (person_by f (known_of m))
        (node l ts))) ∙ now)
      where
        by : (v : Value) → EachOf Named (value_links v ++ forest_links ts)
            → person_leaves p (person_field (known_of o) (node (record { tag = l.tag; value = v }) ts)) ≡ true
            → person_leaves q (person_field (through f (known_of m)) (node (record { tag = l.tag; value = v }) ts))
            ≡ true → person_leaves p (person_field (known_of after) (node (record { tag = l.tag; value = v }) ts))
            ≡ true
        by (value.Text t) h old now = old
        by (value.Ref k) h old now =
            ap (λ x. person_leaves p (person_field (record { tag = λ _. x; path = path_of after })
            (node (record { tag = l.tag; value = value.Ref k }) ts))) (sym (known_back k h.0).tag)
            ∙ pointer_leaves q p (through f (known_of m)) l.tag k ts now

    person_lines : (p q : model.Person) (ts : Lines) → EachOf Named (carried_links ts)
        → AreUntaken (person_field (known_of o)) (person_leaves p) ts → AreUntaken (person_field (known_of m))
        (person_leaves q) (lines_with f ts) → AreUntaken (person_field (known_of after)) (person_leaves p) ts
    person_lines p q [] h old now = refl
    person_lines p q (t ∷ ts) h old now =
        let x = and_parts (person_leaves p (person_field (known_of o) t))
        (list_all (λ u. person_leaves p (person_field (known_of o) u)) ts) old in
        let y = and_parts (person_leaves q (person_field (known_of m) (relabel (line_with f) t)))
        (list_all (λ u. person_leaves q (person_field (known_of m) u)) (lines_with f ts)) now in
        and_from (person_leaves p (person_field (known_of after) t))
        (list_all (λ u. person_leaves p (person_field (known_of after) u)) ts)
        (person_line p q t (each_front Named (line_links t) (carried_links ts) h) x.0 y.0)
        (person_lines p q ts (each_back Named (line_links t) (carried_links ts) h) x.1 y.1)

    module _ (rules : HasSoundRecords next m) where
      -- the carried lines of the two, in those of both
      both_untaken : (k : model.Person) (at : get o s.keep ≡ Some (kind.Person k))
          → AreUntaken (person_field (known_of m)) (person_leaves (both k at))
          (lines_with f k.carried ++ (lines_with f gone_there.0.carried ++ second_sex k.sex gone_there.0.sex))
      both_untaken k at = rules.untaken s.keep (kind.Person (both k at)) (both_now k at)

      old_untaken : (n : ℕ) (r : Record) → get o n ≡ Some r → Old n r → HasUntaken (known_before after n)
          (known_of after) r
      old_untaken n r at (is_gone h e) =
          let was : HasUntaken (known_before o n) (known_of o) (kind.Person gone_there.0) = subst
          (HasUntaken (known_before o n) (known_of o)) e (slip.rules.untaken n r at) in
          subst (HasUntaken (known_before after n) (known_of after)) (sym e)
          (elim (cases_of o s.keep) as (λ _. AreUntaken (person_field (known_of after))
          (person_leaves gone_there.0) gone_there.0.carried) [
            | inl kept ↦
                let k = keep_there kept.0 kept.1 in
                let q : Tree Line → Bool = λ t. person_leaves (both k.0 k.1) (person_field (known_of m) t) in
                let mine : list_all q (lines_with f gone_there.0.carried) ≡ true = all_front q
                (lines_with f gone_there.0.carried) (second_sex k.0.sex gone_there.0.sex)
                (all_back q (lines_with f k.0.carried)
                (lines_with f gone_there.0.carried ++ second_sex k.0.sex gone_there.0.sex)
                (both_untaken k.0 k.1)) in
                person_lines gone_there.0 (both k.0 k.1) gone_there.0.carried
                (each_back Named (flat_map name_links gone_there.0.names) (carried_links gone_there.0.carried)
                (two_named k.0 k.1).1) was mine
            | inr none ↦ subst (λ ts. AreUntaken (person_field (known_of after)) (person_leaves gone_there.0) ts)
                (sym (empty_gone none).2) refl
          ])
      old_untaken n r at (is_keep k h there e) =
          let q : Tree Line → Bool = λ t. person_leaves (both k there) (person_field (known_of m) t) in
          let was : HasUntaken (known_before o n) (known_of o) (kind.Person k) = subst
          (HasUntaken (known_before o n) (known_of o)) e (slip.rules.untaken n r at) in
          subst (HasUntaken (known_before after n) (known_of after)) (sym e)
          (person_lines k (both k there) k.carried
          (each_back Named (flat_map name_links k.names) (carried_links k.carried) (two_named k there).0) was
          (all_front q (lines_with f k.carried) (lines_with f gone_there.0.carried ++ second_sex k.sex gone_there.0.sex)
          (both_untaken k there)))
      old_untaken n r at (is_other now) = other_untaken n r (other_named n r now)
          (rules.untaken n (merged_record s.keep s.gone r) now)

      -- ---- records of no other kind
      module _ (zero_same : AgreeAt (through f (known_of m)) (known_of after) 0) where
        shape_back : (r : Record) → EachOf Named (links r) → HasOwnShape m (merged_record s.keep s.gone r)
            → HasOwnShape after r
        shape_back (kind.Other x) h k = record {
          own = k.own;
          no_entry = λ e.
              sym (entry_same Named (through f (known_of m)) (known_of after) known_back zero_same x.value x.carried
              (each_back Named (value_links x.value) (carried_links x.carried) h))
              ∙ no_entry_back f (known_of m) x.value x.carried (k.no_entry e);
        }
        shape_back (kind.Place p) h k = tt
        shape_back (kind.Repo p) h k = tt
        shape_back (kind.Source p) h k = tt
        shape_back (kind.Person p) h k = tt
        shape_back (kind.Family p) h k = tt
        shape_back (kind.Citation p) h k = tt
        shape_back (kind.Event p) h k = tt
        shape_back (kind.Entry p) h k = tt

        -- ---- levels
        within_back : (n : ℕ) (ts : Lines) → AreWithin n (lines_with f ts) → AreWithin n ts
        within_back n ts w = omega (arith, levels-map (line_with f) ts)

        room_back : (r : Record) → EachOf Named (links r) → HasRoom (owner_in o r) r
            → HasRoom (owner_in m (merged_record s.keep s.gone r)) (merged_record s.keep s.gone r)
            → HasRoom (owner_in after r) r
        room_back (kind.Citation c) h old k =
            let b = back (c.owner, a_cited) h.0 in
            let same : room_below (get m (f c.owner)) ≡ room_below (get after c.owner) = ap room_below b.now
            ∙ b.alike.room ∙ sym (ap room_below b.then_there) in
            subst (λ n. AreWithin n c.carried) same (within_back (room_below (get m (f c.owner))) c.carried k)
        room_back (kind.Place p) h old k = old
        room_back (kind.Repo p) h old k = old
        room_back (kind.Source p) h old k = old
        room_back (kind.Person p) h old k = old
        room_back (kind.Family p) h old k = old
        room_back (kind.Event p) h old k = old
        room_back (kind.Entry p) h old k = tt
        room_back (kind.Other p) h old k = old

        -- ---- each record
        record Rest (n : ℕ) (r : Record) : Type 0 where
          places : HasSaidPlace after r
          events : HasEventTag after r
          shapes : HasOwnShape after r
          levels : HasRoom (owner_in after r) r

        person_rest : (n : ℕ) (p : model.Person) → HasRoom (owner_in o (kind.Person p)) (kind.Person p)
            → Rest n (kind.Person p)
        person_rest n p h = record { places = tt; events = tt; shapes = tt; levels = h }

        old_rest : (n : ℕ) (r : Record) → HasRoom (owner_in o r) r → Old n r → Rest n r
        old_rest n r h (is_gone i e) = subst (Rest n) (sym e)
            (person_rest n gone_there.0 (subst (λ x. HasRoom (owner_in o x) x) e h))
        old_rest n r h (is_keep k i at e) = subst (Rest n) (sym e)
            (person_rest n k (subst (λ x. HasRoom (owner_in o x) x) e h))
        old_rest n r h (is_other now) =
            let new_record : Record = merged_record s.keep s.gone r in
            let all = other_named n r now in
            record {
              places = said_after r (said_back r all (rules.places n new_record now));
              events = tag_back r all (rules.events n new_record now);
              shapes = shape_back r all (rules.shapes n new_record now);
              levels = room_back r all h (rules.levels n new_record now);
            }

        pub undo_keeps : EachIn after (λ n r. Stays m after n r ⊎ KeepsRules next after n r)
        undo_keeps n r at = elim (cases n r at) as (λ _. Stays m after n r ⊎ KeepsRules next after n r) [
          | inl old ↦
              let rest = old_rest n r (slip.rules.levels n r old) (old_as n r old) in
              inr (record {
                number = slip.rules.numbered n r old;
                named = undo_named n r at;
                parents = slip.rules.parents n r old;
                normal = slip.rules.normal n r old;
                once = slip.rules.once n r old;
                tags = slip.rules.tags n r old;
                trailers = slip.rules.trailers n r old;
                texts = slip.rules.texts n r old;
                places = rest.places;
                events = rest.events;
                mentions = slip.rules.mentions n r old;
                untaken = old_untaken n r old (old_as n r old);
                shapes = rest.shapes;
                levels = rest.levels;
              })
          | inr now ↦ inl (record {
            there = now.1;
            named = each_all (λ (l : Link). StaysAlike m after l.0)
                (λ l. record { alike = like l.0; path = sym (paths_same l.0) }) (links r);
          })
        ]

    -- ---- entries
    entry_back : (n : ℕ) (e : model.Entry) → Old n (kind.Entry e) → (d : model.Entry) × (get m n ≡ Some (kind.Entry d))
        × (d.source ≡ e.source) × (d.kind ≡ e.kind) × (d.page ≡ e.page) × (d.item ≡ e.item)
    entry_back n e (is_gone h is) = absurd cc
    entry_back n e (is_keep k h at is) = absurd cc
    entry_back n e (is_other now) = (
      entry_with f e,
      now,
      still a_source no_source_person e.source (other_named n (kind.Entry e) now).0,
      refl,
      refl,
      refl,
    )

    pub was_entry : (n : ℕ) → WasEntry m after n
    was_entry n e at = elim (cases n (kind.Entry e) at) as (λ _. (d : model.Entry) × (get m n ≡ Some (kind.Entry d))
        × (d.source ≡ e.source) × (d.kind ≡ e.kind) × (d.page ≡ e.page) × (d.item ≡ e.item)) [
          | inl old ↦ entry_back n e (old_as n (kind.Entry e) old)
          | inr now ↦ (e, now.1, refl, refl, refl, refl)
        ]
