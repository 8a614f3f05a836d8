-- A sound archive stays sound when two persons are merged.
use Rattle.std.proofs.Common.{
  ◌≡◌,
  ℕ,
  ◌+◌,
  ◌<◌,
  ◌≤◌,
  List,
  [],
  ◌∷◌,
  ◌++◌,
  Bool,
  true,
  false,
  cond,
  refl,
  sym,
  ap,
  ◌∙◌,
  inl,
  inr,
  subst,
  arith,
}
use Rattle.std.specs.Prelude.{Option, Some, None, is_none, map, option_map, not, ◌&&◌, ◌||◌, ◌==◌, IfSome, MatchOption}
use Rattle.std.specs.List.{filter, list_any}
use Rattle.std.specs.FinMap.{FinMap, get, find, insert, entries, get-entries}
use Rattle.std.specs.Ordering.{nat_cmp, eq_by_cmp}
use Rattle.std.proofs.lemmas.Bool.{and_parts, or_parts, not-false}
use Rattle.std.proofs.lemmas.Option.{IfSome_then}
use Rattle.std.proofs.lemmas.List.{append-nil}
use Rattle.record_kinds.specs.Model as model
use Rattle.record_fields.specs.declared.words.Sex.{Sex}
use Rattle.record_kinds.specs.declared.record.Record.{Record}
use Rattle.record_kinds.specs.declared.record.Record.TheVariants as kind
use Rattle.archive_state.specs.Links.{Link, links, names, is_wanted, is_among}
use Rattle.archive_state.specs.Content.{Content, Records}
use Rattle.record_shapes.specs.Tags.{is_event_tag}
use Rattle.archive_state.specs.Merging.{
  merged,
  merged_record,
  merged_person,
  joined_person,
  person_with,
  name_with,
  lines_with,
  sex_of_two,
  second_sex,
  renamed,
  once_in,
  clashes,
}
use Rattle.archive_state.specs.declared.slip.Change.{Change}
use Rattle.archive_state.specs.Sound.{
  EachIn,
  IsNumber,
  HasEventTag,
  HasSaidPlace,
  place_of,
  HasSoundRecords,
  Stands,
  StandsIfThere,
  IsPerson,
  IsEmptyPerson,
  new_names,
  change_names,
  old_records,
  IsSoundSlip,
  IsSound,
}
use Rattle.record_shapes.specs.Lists.{EachOf, Ascends}
use Rattle.merging.specs.Merges.{
  is_empty,
  adds_nothing,
  is_changed,
  change_at,
  merge_changes,
  is_clash,
  merged_records,
  slip_of,
  with_merge,
}
use Rattle.record_shapes.proofs.Each.{each_mapped, each_flat, each_under, each_more, each_both, each_zip}
use Rattle.merging.proofs.Merged.{at_gone, at_keep, at_other, which, alike_before}
use Rattle.merging.proofs.Same.{all_fixed, record_same, once_in_same}
use Rattle.merging.proofs.Picking.{key, entries_rise}
use Rattle.archive_state.proofs.Putting.{one_number, put_cases, put_elsewhere}
use Rattle.merging.proofs.Changing.{
  changes_rise,
  old_none,
  old_there,
  old_left,
  made_none,
  made_there,
  made_left,
  no_gone,
  each_found,
}
use Rattle.archive_state.proofs.Keeping.{
  slip_later,
  keeps_sound,
  number_later,
  KeepsRules,
  if_there,
  person_alike,
  stayed_at,
}
use Rattle.archive_state.specs.Slips.{Slip}
use Rattle.merging.proofs.Joining.{merge_keeps, merge_path, was_entry}
use Rattle.merging.proofs.Keys.{WasEntry, keys_still}
use Rattle.merging.proofs.Part.{part_untaken, part_shape, part_room}
use Rattle.merging.proofs.PathsKept.{path_within}
use Rattle.list_laws.proofs.Numbers.{same_self, itself}

-- ---- a person who adds nothing
null_list : {A : Type 0} (xs : List A) → is_empty xs ≡ true → xs ≡ []
null_list [] e = refl
null_list (x ∷ xs) e = absurd cc

null_option : {A : Type 0} (o : Option A) → is_none o ≡ true → o ≡ None
null_option None e = refl
null_option (Some a) e = absurd cc

nothing_added : (g : model.Person) → adds_nothing (Some (kind.Person g)) ≡ true → IsEmptyPerson (kind.Person g)
nothing_added g e =
    let a = and_parts (is_empty g.names) (is_none g.sex && is_empty g.carried) e in
    let b = and_parts (is_none g.sex) (is_empty g.carried) a.1 in
    (null_list g.names a.0, null_option g.sex b.0, null_list g.carried b.1)

sex_alone : (s : Option Sex) → sex_of_two s None ≡ s
sex_alone None = refl
sex_alone (Some s) = refl

no_second : (s : Option Sex) → second_sex s None ≡ []
no_second None = refl
no_second (Some s) = refl

joined_nothing : (f : ℕ → ℕ) (k g : model.Person) → IsEmptyPerson (kind.Person g)
    → joined_person k (person_with f g) ≡ k
joined_nothing f k g (names, sex, lines) =
    let a : k.names ++ map (name_with f) g.names ≡ k.names = ap (λ l. k.names ++ map (name_with f) l) names
    ∙ append-nil k.names in
    let b : sex_of_two k.sex g.sex ≡ k.sex = ap (sex_of_two k.sex) sex ∙ sex_alone k.sex in
    let d : k.carried ++ (lines_with f g.carried ++ second_sex k.sex g.sex) ≡ k.carried =
    ap (λ l. k.carried ++ (lines_with f l ++ second_sex k.sex g.sex)) lines ∙ ap (λ s. k.carried ++ second_sex k.sex s)
    sex ∙ ap (λ l. k.carried ++ l) (no_second k.sex) ∙ append-nil k.carried in
    λ i. record { names = a i; sex = b i; carried = d i }

-- ---- entries stand
module _ {X : Type 0} where
  entry_past : (e : ℕ × X) (es : List (ℕ × X)) → (d : ℕ × X) → e.0 < d.0 → find nat_cmp d.0 es ≡ Some d.1
      → find nat_cmp d.0 (e ∷ es) ≡ Some d.1
  entry_past e es d less h = elim (eq_by_cmp nat_cmp d.0 e.0) as (λ b. eq_by_cmp nat_cmp d.0 e.0 ≡ b
      → cond b (Some e.1) (find nat_cmp d.0 es) ≡ Some d.1) [
        | true ↦ λ q. let same : d.0 ≡ e.0 = one_number d.0 e.0 q in absurd (omega arith)
        | false ↦ λ q. h
      ] refl

  all_found : (es : List (ℕ × X)) → Ascends (map key es) → EachOf (λ d. find nat_cmp d.0 es ≡ Some d.1) es
  all_found [] h = tt
  all_found (e ∷ es) h = (
    ap (λ b. cond b (Some e.1) (find nat_cmp e.0 es)) (itself e.0),
    each_zip (λ d. e.0 < d.0) (λ d. find nat_cmp d.0 es ≡ Some d.1) (λ d. find nat_cmp d.0 (e ∷ es) ≡ Some d.1)
        (entry_past e es) es (each_under (λ j. e.0 < j) key es h.0) (all_found es h.1),
  )

  pub entries_there : (m : FinMap nat_cmp X) → EachOf (λ (d : ℕ × X). get m d.0 ≡ Some d.1) (entries m)
  entries_there m = each_more (λ d. find nat_cmp d.0 (entries m) ≡ Some d.1) (λ d. get m d.0 ≡ Some d.1)
      (λ d h. get-entries m d.0 ∙ h) (entries m) (all_found (entries m) (entries_rise m))

  none_passes : (p : X → Bool) (n : ℕ) (x : X) (es : List (ℕ × X)) → list_any (λ e. p e.1) es ≡ false
      → find nat_cmp n es ≡ Some x → p x ≡ false
  none_passes p n x [] e h = absurd cc
  none_passes p n x (d ∷ es) e h =
      elim (eq_by_cmp nat_cmp n d.0) as (λ b. cond b (Some d.1) (find nat_cmp n es) ≡ Some x → p x ≡ false) [
        | true ↦ λ q. let same : d.1 ≡ x = cc in ap p (sym same) ∙ (or_parts (p d.1) (list_any (λ y. p y.1) es) e).0
        | false ↦ λ q. none_passes p n x es (or_parts (p d.1) (list_any (λ y. p y.1) es) e).1 q
      ] h

pub no_clashes : (keep gone : ℕ) (m : Records) → is_clash keep gone m ≡ false
    → EachIn m (λ n r. clashes keep gone r ≡ false)
no_clashes keep gone m e n r at = none_passes (clashes keep gone) n r (entries m) e (sym (get-entries m n) ∙ at)

-- ---- the merge of a sound archive
module _ (c : Content) (keep gone : ℕ) (k g : model.Person) (sound : IsSound c)
    (at_k : get c.records keep ≡ Some (kind.Person k)) (at_g : get c.records gone ≡ Some (kind.Person g))
    (apart : keep ≡ gone → ⊥)
    (free : EachIn c.records (λ n r. clashes keep gone r ≡ false)) where
  abbrev m : Records
  m = c.records

  abbrev after : Records
  after = merged_records keep gone m

  abbrev o : Records
  o = old_records (slip_of keep gone m)

  -- ---- what does not change
  adds_none : is_changed keep gone m keep (kind.Person k) ≡ false → IsEmptyPerson (kind.Person g)
  adds_none t =
      let a : ((keep == keep && not (adds_nothing (get m gone))) || is_among gone (links (kind.Person k))) ≡ false =
      (or_parts (keep == gone) _ t).1 in
      let b : (keep == keep && not (adds_nothing (get m gone))) ≡ false =
      (or_parts (keep == keep && not (adds_nothing (get m gone))) _ a).0 in
      let d : not (adds_nothing (get m gone)) ≡ false = ap (λ x. x && not (adds_nothing (get m gone)))
      (sym (same_self keep)) ∙ b in
      nothing_added g (ap adds_nothing (sym at_g) ∙ not-false (adds_nothing (get m gone)) d)

  not_named : (n : ℕ) (r : Record) → is_changed keep gone m n r ≡ false → is_among gone (links r) ≡ false
  not_named n r t = (or_parts (n == keep && not (adds_nothing (get m gone))) _ (or_parts (n == gone) _ t).1).1

  unchanged : (n : ℕ) (r : Record) → get m n ≡ Some r → is_changed keep gone m n r ≡ false
      → merged keep gone (get m) n ≡ Some r
  unchanged n r at t = elim (which keep gone n) as (λ _. merged keep gone (get m) n ≡ Some r) [
    | inl h ↦ absurd (no_gone keep gone m n r t h)
    | inr h ↦ elim h as (λ _. merged keep gone (get m) n ≡ Some r) [
      | inl i ↦
          let same : kind.Person k ≡ r = let e : Some (kind.Person k) ≡ Some r = sym at_k
          ∙ ap (get m) (sym i.1) ∙ at in cc in
          let t_k : is_changed keep gone m keep (kind.Person k) ≡ false = subst
          (λ x. is_changed keep gone m keep x ≡ false) (sym same)
          (subst (λ j. is_changed keep gone m j r ≡ false) i.1 t) in
          ap (merged keep gone (get m)) i.1 ∙ at_keep keep gone (get m) apart
          ∙ ap (λ x. merged_person keep gone x (get m gone)) at_k
          ∙ ap (merged_person keep gone (Some (kind.Person k))) at_g
          ∙ ap (λ x. Some (kind.Person x)) (joined_nothing (renamed keep gone) (person_with (renamed keep gone) k) g
          (adds_none t_k))
          ∙ ap Some (record_same (renamed keep gone) (kind.Person k)
          (all_fixed keep gone (links (kind.Person k)) (not_named keep (kind.Person k) t_k))) ∙ ap Some same
      | inr i ↦
          at_other keep gone (get m) n i.0 i.1 ∙ ap (option_map (merged_record keep gone)) at
          ∙ ap (λ x. Some (once_in keep x))
          (record_same (renamed keep gone) r (all_fixed keep gone (links r) (not_named n r t)))
          ∙ ap Some (once_in_same keep r (sound.rules.once n r at))
    ]
  ]

  -- what the changes make is the merge of all records
  pub made_merged : (n : ℕ) → get after n ≡ merged keep gone (get m) n
  made_merged n = elim (get m n) as (λ x. get m n ≡ x → get after n ≡ merged keep gone (get m) n) [
    | None ↦ λ e. made_none keep gone m n e
        ∙ sym (elim (which keep gone n) as (λ _. merged keep gone (get m) n ≡ None) [
          | inl h ↦ ap (merged keep gone (get m)) h ∙ at_gone keep gone (get m)
          | inr h ↦ elim h as (λ _. merged keep gone (get m) n ≡ None) [
            | inl i ↦ let never : Some (kind.Person k) ≡ None = sym at_k ∙ ap (get m) (sym i.1) ∙ e in absurd cc
            | inr i ↦ at_other keep gone (get m) n i.0 i.1 ∙ ap (option_map (merged_record keep gone)) e
          ]
        ])
    | Some r ↦ λ e. elim (is_changed keep gone m n r) as (λ b. is_changed keep gone m n r ≡ b
        → get after n ≡ merged keep gone (get m) n) [
          | true ↦ λ t. made_there keep gone m n r e t
          | false ↦ λ t. made_left keep gone m n r e t ∙ sym (unchanged n r e t)
        ] refl
  ] refl

  later : c.next ≤ c.next + 1
  later = omega arith

  keeps_after : EachIn after (KeepsRules (c.next + 1) after)
  keeps_after = merge_keeps c (c.next + 1) keep gone k g sound later at_k at_g apart free after made_merged

  -- ---- the slip
  -- the old records are among those of the archive
  pub sub : (n : ℕ) (r : Record) → get o n ≡ Some r → get m n ≡ Some r
  sub n r at = elim (get m n) as (λ x. get m n ≡ x → x ≡ Some r) [
    | None ↦ λ e. let never : None ≡ Some r = sym (old_none keep gone m n e) ∙ at in absurd cc
    | Some y ↦ λ e. elim (is_changed keep gone m n y) as (λ b. is_changed keep gone m n y ≡ b → Some y ≡ Some r) [
      | true ↦ λ t. sym (old_there keep gone m n y e t) ∙ at
      | false ↦ λ t. let never : None ≡ Some r = sym (old_left keep gone m n y e t) ∙ at in absurd cc
    ] refl
  ] refl

  gone_changes : (r : Record) → is_changed keep gone m gone r ≡ true
  gone_changes r = ap (λ b. b || ((gone == keep && not (adds_nothing (get m gone))) || is_among gone (links r)))
      (same_self gone)

  old_gone : get o gone ≡ Some (kind.Person g)
  old_gone = old_there keep gone m gone (kind.Person g) at_g (gone_changes (kind.Person g))

  was_entry_old : (n : ℕ) → WasEntry m o n
  was_entry_old n e at = (e, sub n (kind.Entry e) at, refl, refl, refl, refl)

  if_old : (P : Record → Type 0) (n : ℕ) → ((r : Record) → get m n ≡ Some r → P r) → IfSome (get o n) P
  if_old P n h = elim (get o n) as (λ x. get o n ≡ x → IfSome x P) [
    | None ↦ λ e. tt
    | Some r ↦ λ e. h r (sub n r e)
  ] refl

  old_events : (r : Record) → HasEventTag m r → HasEventTag o r
  old_events (kind.Event e) h = if_old (λ owner. is_event_tag e.tag owner ≡ true) e.owner
      (λ r at. subst (λ x. IfSome x (λ owner. is_event_tag e.tag owner ≡ true)) at h)
  old_events (kind.Place p) h = tt
  old_events (kind.Repo p) h = tt
  old_events (kind.Source p) h = tt
  old_events (kind.Person p) h = tt
  old_events (kind.Family p) h = tt
  old_events (kind.Citation p) h = tt
  old_events (kind.Entry p) h = tt
  old_events (kind.Other p) h = tt

  old_said : (r : Record) → HasSaidPlace m r → HasSaidPlace o r
  old_said r said = IfSome_then (place_of r) said (λ p k path h. k path (path_within o m sub p path h))

  old_rules : HasSoundRecords (c.next + 1) o
  old_rules = record {
    numbered = λ n r e. number_later c.next (c.next + 1) later n (sound.rules.numbered n r (sub n r e));
    parents = λ n r e. sound.rules.parents n r (sub n r e);
    normal = λ n r e. sound.rules.normal n r (sub n r e);
    paths = λ n path h. sound.rules.paths n path (path_within o m sub n path h);
    once = λ n r e. sound.rules.once n r (sub n r e);
    tags = λ n r e. sound.rules.tags n r (sub n r e);
    trailers = λ n r e. sound.rules.trailers n r (sub n r e);
    places = λ n r e. old_said r (sound.rules.places n r (sub n r e));
    events = λ n r e. old_events r (sound.rules.events n r (sub n r e));
    mentions = λ n r e. sound.rules.mentions n r (sub n r e);
    texts = λ n r e. sound.rules.texts n r (sub n r e);
    untaken = λ n r e. part_untaken o m sub n r (sound.rules.untaken n r (sub n r e));
    shapes = λ n r e. part_shape o m sub r (sound.rules.shapes n r (sub n r e));
    levels = λ n r e. part_room o m sub r (sound.rules.levels n r (sub n r e));
    keys = keys_still m o was_entry_old sound.rules.keys;
  }

  stands_if : (l : Link) → Stands m l → StandsIfThere o l
  stands_if l h = if_old (λ r. is_wanted l.1 r ≡ true) l.0
      (λ r at. let e : Some (is_wanted l.1 r) ≡ Some true = sym (ap (option_map (is_wanted l.1)) at) ∙ h in cc)

  old_merged : (n : ℕ) (r : Record) → get m n ≡ Some r → is_changed keep gone m n r ≡ true
      → merged keep gone (get m) n ≡ merged keep gone (get o) n
  old_merged n r at t =
      let there : get o n ≡ get m n = old_there keep gone m n r at t ∙ sym at in
      elim (which keep gone n) as (λ _. merged keep gone (get m) n ≡ merged keep gone (get o) n) [
        | inl h ↦ ap (merged keep gone (get m)) h ∙ at_gone keep gone (get m) ∙ sym (at_gone keep gone (get o))
            ∙ ap (merged keep gone (get o)) (sym h)
        | inr h ↦ elim h as (λ _. merged keep gone (get m) n ≡ merged keep gone (get o) n) [
          | inl i ↦
              ap (merged keep gone (get m)) i.1 ∙ at_keep keep gone (get m) apart
              ∙ ap (λ x. merged_person keep gone x (get m gone)) (sym (ap (get o) (sym i.1) ∙ there ∙ ap (get m) i.1))
              ∙ ap (merged_person keep gone (get o keep)) (at_g ∙ sym old_gone)
              ∙ sym (at_keep keep gone (get o) apart) ∙ ap (merged keep gone (get o)) (sym i.1)
          | inr i ↦ at_other keep gone (get m) n i.0 i.1 ∙ ap (option_map (merged_record keep gone)) (sym there)
              ∙ sym (at_other keep gone (get o) n i.0 i.1)
        ]
      ]

  -- ---- the numbers of the slip
  a_number : (l : Link) → Stands m l → IsNumber (c.next + 1) l.0
  a_number l h = elim (get m l.0) as (λ x. get m l.0 ≡ x → option_map (is_wanted l.1) x ≡ Some true
      → IsNumber (c.next + 1) l.0) [
        | None ↦ λ e q. absurd cc
        | Some r ↦ λ e q. number_later c.next (c.next + 1) later l.0 (sound.rules.numbered l.0 r e)
      ] refl h

  new_number : (l : Link) → Stands after l → IsNumber (c.next + 1) l.0
  new_number l h = elim (get after l.0) as (λ x. get after l.0 ≡ x → option_map (is_wanted l.1) x ≡ Some true
      → IsNumber (c.next + 1) l.0) [
        | None ↦ λ e q. absurd cc
        | Some r ↦ λ e q. (keeps_after l.0 r e).number
      ] refl h

  names_of_new : (n : ℕ) (x : Option Record) → get after n ≡ x → EachOf (IsNumber (c.next + 1)) (new_names x)
  names_of_new n None e = tt
  names_of_new n (Some r) e = each_mapped (IsNumber (c.next + 1)) (λ (l : Link). l.0) (links r)
      (each_more (Stands after) (λ l. IsNumber (c.next + 1) l.0) new_number (links r) (keeps_after n r e).named)

  numbers_of : (n : ℕ) (r : Record) → get m n ≡ Some r → is_changed keep gone m n r ≡ true
      → EachOf (IsNumber (c.next + 1)) (change_names (change_at keep gone m (n, r)))
  numbers_of n r at t = (
    number_later c.next (c.next + 1) later n (sound.rules.numbered n r at),
    each_both (IsNumber (c.next + 1)) (names r) (new_names (merged keep gone (get m) n))
        (each_mapped (IsNumber (c.next + 1)) (λ (l : Link). l.0) (links r)
        (each_more (Stands m) (λ l. IsNumber (c.next + 1) l.0) a_number (links r) (sound.named n r at)))
        (names_of_new n (merged keep gone (get m) n) (made_merged n)),
  )

  abbrev each_change : (Q : Change → Type 0)
      → ((n : ℕ) (r : Record) → get m n ≡ Some r → is_changed keep gone m n r ≡ true → Q (change_at keep gone m (n, r)))
      → EachOf Q (merge_changes keep gone m)
  each_change Q h = each_mapped Q (change_at keep gone m) (filter (λ e. is_changed keep gone m e.0 e.1) (entries m))
      (each_found keep gone m (λ e. Q (change_at keep gone m e)) h (entries m) (entries_there m))

  kept_old : MatchOption (get o keep) ((r : Record) → get o gone ≡ Some r → IsEmptyPerson r) IsPerson
  kept_old = elim (is_changed keep gone m keep (kind.Person k)) as (λ b. is_changed keep gone m keep (kind.Person k) ≡ b
      → MatchOption (get o keep) ((r : Record) → get o gone ≡ Some r → IsEmptyPerson r) IsPerson) [
        | true ↦ λ t. subst (λ x. MatchOption x ((r : Record) → get o gone ≡ Some r → IsEmptyPerson r) IsPerson)
            (sym (old_there keep gone m keep (kind.Person k) at_k t)) tt
        | false ↦ λ t. subst (λ x. MatchOption x ((r : Record) → get o gone ≡ Some r → IsEmptyPerson r) IsPerson)
            (sym (old_left keep gone m keep (kind.Person k) at_k t))
            (λ r e. let same : kind.Person g ≡ r = let q : Some (kind.Person g) ≡ Some r = sym old_gone ∙ e in cc in
            subst IsEmptyPerson same (adds_none t))
      ] refl

  -- the slip of a merge is sound
  pub slip_sound : IsSoundSlip (c.next + 1) c.next (slip_of keep gone m)
  slip_sound =
      let begun : 0 < c.next = sound.begun in
      record {
        numbered = (
          (omega arith, omega arith),
          (
            number_later c.next (c.next + 1) later keep (sound.rules.numbered keep (kind.Person k) at_k),
            (
              number_later c.next (c.next + 1) later gone (sound.rules.numbered gone (kind.Person g) at_g),
              each_flat (IsNumber (c.next + 1)) change_names (merge_changes keep gone m)
                  (each_change (λ x. EachOf (IsNumber (c.next + 1)) (change_names x)) numbers_of),
            ),
          ),
        );
        ascending = changes_rise keep gone m;
        gone = (kind.Person g, old_gone, tt);
        keep = kept_old;
        apart = apart;
        joinable = λ n r e. free n r (sub n r e);
        merges = each_change (λ x. x.new ≡ merged keep gone (get o) x.number) old_merged;
        named = λ n r e. each_more (Stands m) (StandsIfThere o) stands_if (links r) (sound.named n r (sub n r e));
        rules = old_rules;
      }

  -- no number of a record is that of a slip, the new one included
  slip_apart : (n : ℕ) → IsNumber c.next n → get c.slips n ≡ None
      → get (insert c.slips c.next (slip_of keep gone m)) n ≡ None
  slip_apart n number none = put_elsewhere c.slips c.next (slip_of keep gone m) n
      (λ same. let less : n < c.next = number.1 in absurd (omega arith)) ∙ none

  merged_number : (n : ℕ) (r : Record) → get after n ≡ Some r → IsNumber c.next n × (get c.slips n ≡ None)
  merged_number n r e =
      let old = alike_before keep gone (get m) n r (sym (made_merged n) ∙ e) in
      (sound.rules.numbered n old.0 old.1, sound.distinct n old.0 old.1)

  pub merge_sound : c.next ≤ 4294967295 → IsSound (with_merge keep gone c (c.next + 1))
  merge_sound room =
      let s : Slip = slip_of keep gone m in
      keeps_sound c (with_merge keep gone c (c.next + 1)) sound (record {
        later = later;
        bounded = omega arith;
        records = λ n r e. inr (keeps_after n r e);
        distinct = λ n r e. let x = merged_number n r e in slip_apart n x.0 x.1;
        paths = λ n path h. sound.rules.paths n path
            (merge_path c (c.next + 1) keep gone k g sound later at_k at_g apart free after made_merged n path h);
        keys = keys_still m after
            (was_entry c (c.next + 1) keep gone k g sound later at_k at_g apart free after made_merged)
            sound.rules.keys;
        slips = λ n x e. elim (put_cases c.slips c.next s n (Some x) e) as (λ _. IsSoundSlip (c.next + 1) n x) [
          | inl h ↦ let same : s ≡ x = let q = h.1 in cc in
              subst (λ i. IsSoundSlip (c.next + 1) i x) (sym h.0)
              (subst (IsSoundSlip (c.next + 1) c.next) same slip_sound)
          | inr h ↦ slip_later c.next (c.next + 1) later n x (sound.slips n x h.1)
        ];
        stayed = λ n x e. if_there (get after x.keep) IsPerson (λ r at.
            let old = alike_before keep gone (get m) x.keep r (sym (made_merged x.keep) ∙ at) in
            person_alike old.0 r old.2 (elim (put_cases c.slips c.next s n (Some x) e) as (λ _. IsPerson old.0) [
              | inl h ↦
                  let same : s ≡ x = let q = h.1 in cc in
                  let is : kind.Person k ≡ old.0 = let q : Some (kind.Person k) ≡ Some old.0 = sym at_k
                  ∙ ap (λ (y : Slip). get m y.keep) same ∙ old.1 in cc in
                  subst IsPerson is tt
              | inr h ↦ stayed_at c n x.keep x old.0 sound h.1 refl old.1
            ]));
        free = λ n x e. elim (put_cases c.slips c.next s n (Some x) e) as (λ _. get (insert c.slips c.next s)
            x.gone ≡ None) [
              | inl h ↦
                  let same : s ≡ x = let q = h.1 in cc in
                  ap (λ (y : Slip). get (insert c.slips c.next s) y.gone) (sym same) ∙ slip_apart gone
                  (sound.rules.numbered gone (kind.Person g) at_g) (sound.distinct gone (kind.Person g) at_g)
              | inr h ↦ slip_apart x.gone (sound.slips n x h.1).numbered.1.1.0 (sound.free n x h.1)
            ];
      })
