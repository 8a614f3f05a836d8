-- A part of the records of an archive, without what some of them name: what is known of it is less, and each rule on
-- one record that holds in all of them holds in the part.
use Rattle.std.proofs.Common.{
  ◌≡◌,
  ◌⊎◌,
  ℕ,
  ◌≤◌,
  List,
  [],
  ◌∷◌,
  Bool,
  true,
  false,
  nat_lt,
  refl,
  sym,
  ap,
  ◌∙◌,
  inl,
  inr,
  subst,
  arith,
}
use Rattle.std.specs.Prelude.{Option, Some, None, codes, bytes_eq, length, nat_le, ◌&&◌, ◌||◌, if◌then◌else◌}
use Rattle.std.specs.FinMap.{get}
use Rattle.std.specs.List.{list_all, list_any}
use Rattle.std.proofs.lemmas.Bool.{and_parts, and_from}
use Rattle.stored_lines.specs.Tree.{Tree, Forest, node, none, more, forest_of}
use Rattle.stored_lines.specs.Line.{Line, Lines}
use Rattle.stored_lines.specs.declared.carried.Value.{Value}
use Rattle.stored_lines.specs.declared.carried.Value.TheVariants as value
use Rattle.record_fields.specs.Words.{entry_kind_of}
use Rattle.record_fields.specs.declared.entry_words.EntryKind.{EntryKind}
use Rattle.record_kinds.specs.Model as model
use Rattle.record_kinds.specs.declared.record.Record.{Record}
use Rattle.record_kinds.specs.declared.record.Record.TheVariants as kind
use Rattle.record_shapes.specs.declared.field.Field.{Field}
use Rattle.record_shapes.specs.Entries.{
  around,
  entry_if,
  entry_of,
  entry_on,
  has_its_lines,
  is_entry,
  is_said,
  is_said_path,
  names_person,
  same_forest,
}
use Rattle.record_shapes.specs.Fields as part
use Rattle.record_shapes.specs.Fields.{row, source_field, person_field, family_field, event_field, parent_field}
use Rattle.record_shapes.specs.Forms.{Known, is_some, is_text_value, text_in}
use Rattle.record_shapes.specs.Levels.{AreWithin, HasRoom, room_below}
use Rattle.record_shapes.specs.Roles.{is_role_of}
use Rattle.record_shapes.specs.Shapes.{entry_lines}
use Rattle.record_shapes.specs.Tags.{person_tags, family_tags}
use Rattle.record_shapes.specs.Untaken.{
  AreUntaken,
  HasUntaken,
  event_leaves,
  family_leaves,
  person_leaves,
  place_leaves,
  source_leaves,
}
use Rattle.archive_state.specs.Content.{Records}
use Rattle.archive_state.specs.Known.{tag_at, path_of, known_of, known_before}
use Rattle.archive_state.specs.Sound.{HasOwnShape, owner_in}
use Rattle.archive_state.proofs.Changing.{cases_of}
use Rattle.merging.proofs.PathsKept.{path_or_none, either_none}

-- no more than 97 levels are left
at_most : (o : Option Record) → room_below o ≤ 97
at_most None = omega arith
at_most (Some (kind.Event e)) = omega arith
at_most (Some (kind.Place p)) = omega arith
at_most (Some (kind.Repo p)) = omega arith
at_most (Some (kind.Source p)) = omega arith
at_most (Some (kind.Person p)) = omega arith
at_most (Some (kind.Family p)) = omega arith
at_most (Some (kind.Citation p)) = omega arith
at_most (Some (kind.Entry p)) = omega arith
at_most (Some (kind.Other p)) = omega arith

-- of a number nothing is known, or the same
pub record IsLess (a b : Known) (n : ℕ) : Type 0 where
  pub tag : (a.tag n ≡ []) ⊎ (a.tag n ≡ b.tag n)
  pub path : (a.path n ≡ None) ⊎ (a.path n ≡ b.path n)

-- ---- rows that do not fit
abbrev chain : List (Bool × Field) → Field
chain [] = part.carried
chain (r ∷ rs) = row (r.0 && false) r.1 (chain rs)

pub off : (b : Bool) (x y : Field) → row (b && false) x y ≡ y
off true x y = refl
off false x y = refl

chain_is : (rs : List (Bool × Field)) → chain rs ≡ part.carried
chain_is [] = refl
chain_is (r ∷ rs) = off r.0 r.1 (chain rs) ∙ chain_is rs

-- a pointer to what is not known is carried
source_none : (tag : List ℕ) (n : ℕ) (ts : Forest Line) (path : ℕ → Option (List ℕ))
    → source_field (record { tag = λ _. []; path = path }) (node (record { tag = tag; value = value.Ref n }) ts)
    ≡ part.carried
source_none tag n ts path =
    chain_is ((bytes_eq tag (codes "TITL"), part.a_title) ∷ ((bytes_eq tag (codes "AUTH"), part.an_author)
    ∷ ((bytes_eq tag (codes "PUBL"), part.a_publisher) ∷ ((bytes_eq tag (codes "REPO"), part.a_holding) ∷ []))))

person_none : (tag : List ℕ) (n : ℕ) (ts : Forest Line) (path : ℕ → Option (List ℕ))
    → person_field (record { tag = λ _. []; path = path }) (node (record { tag = tag; value = value.Ref n }) ts)
    ≡ part.carried
person_none tag n ts path =
    chain_is ((bytes_eq tag (codes "NAME"), part.a_name)
    ∷ ((bytes_eq tag (codes "SEX"), part.a_sex) ∷ ((list_any (bytes_eq tag) person_tags, part.an_event)
    ∷ ((bytes_eq tag (codes "FAMC") || bytes_eq tag (codes "FAMS"), part.a_side)
    ∷ ((bytes_eq tag (codes "SOUR"), part.a_citation) ∷ [])))))

family_none : (tag : List ℕ) (n : ℕ) (ts : Forest Line) (path : ℕ → Option (List ℕ))
    → family_field (record { tag = λ _. []; path = path }) (node (record { tag = tag; value = value.Ref n }) ts)
    ≡ part.carried
family_none tag n ts path =
    chain_is ((
      bytes_eq tag (codes "HUSB") || (bytes_eq tag (codes "WIFE") || bytes_eq tag (codes "CHIL")),
      part.a_member,
    )
    ∷ ((list_any (bytes_eq tag) family_tags, part.an_event) ∷ ((bytes_eq tag (codes "SOUR"), part.a_citation) ∷ [])))

event_none : (tag : List ℕ) (n : ℕ) (ts : Forest Line) (path : ℕ → Option (List ℕ))
    → event_field (record { tag = λ _. []; path = path }) (node (record { tag = tag; value = value.Ref n }) ts)
    ≡ part.carried
event_none tag n ts path =
    chain_is ((bytes_eq tag (codes "DATE"), part.a_date) ∷ ((bytes_eq tag (codes "PLAC"), part.a_place)
    ∷ ((bytes_eq tag (codes "_PART"), part.a_participant) ∷ ((bytes_eq tag (codes "SOUR"), part.a_citation) ∷ []))))

parent_none : (name tag : List ℕ) (n : ℕ) (ts : Forest Line) (tags : ℕ → List ℕ)
    → parent_field (record { tag = tags; path = λ _. None }) name
    (node (record { tag = tag; value = value.Ref n }) ts) ≡ part.carried
parent_none name tag n none tags = off (bytes_eq tag (codes "_LOC")) part.a_parent part.carried
parent_none name tag n (more t ts) tags = off (bytes_eq tag (codes "_LOC")) part.a_parent part.carried

-- ---- lines
-- where each line is of a field of before, or is carried
fewer : (g h : Tree Line → Field) (leaves : Field → Bool) → leaves part.carried ≡ true
    → ((t : Tree Line) → (g t ≡ part.carried) ⊎ (g t ≡ h t)) → (ts : Lines) → AreUntaken h leaves ts
    → AreUntaken g leaves ts
fewer g h leaves leave same [] u = refl
fewer g h leaves leave same (t ∷ ts) u =
    let both = and_parts (leaves (h t)) (list_all (λ v. leaves (h v)) ts) u in
    and_from (leaves (g t)) (list_all (λ v. leaves (g v)) ts)
    (elim (same t) as (λ _. leaves (g t) ≡ true) [
      | inl nothing ↦ ap leaves nothing ∙ leave
      | inr is ↦ ap leaves is ∙ both.0
    ])
    (fewer g h leaves leave same ts both.1)

module _ (a b : Known) (less : (n : ℕ) → IsLess a b n) where
  source_less : (t : Tree Line) → (source_field a t ≡ part.carried) ⊎ (source_field a t ≡ source_field b t)
  source_less (node l ts) = by l.tag l.value
    where
      by : (tag : List ℕ) (v : Value) → (source_field a (node (record { tag = tag; value = v }) ts) ≡ part.carried)
          ⊎ (source_field a (node (record { tag = tag; value = v }) ts) ≡ source_field b
          (node (record { tag = tag; value = v }) ts))
      by tag (value.Text t) = inr refl
      by tag (value.Ref n) =
          elim (less n).tag as (λ _. (source_field a (node (record { tag = tag; value = value.Ref n }) ts)
          ≡ part.carried) ⊎ (source_field a (node (record { tag = tag; value = value.Ref n }) ts)
          ≡ source_field b (node (record { tag = tag; value = value.Ref n }) ts))) [
            | inl is ↦ inl (ap (λ x. source_field (record { tag = λ _. x; path = a.path })
                (node (record { tag = tag; value = value.Ref n }) ts)) is ∙ source_none tag n ts a.path)
            | inr is ↦ inr (ap (λ x. source_field (record { tag = λ _. x; path = a.path })
                (node (record { tag = tag; value = value.Ref n }) ts)) is)
          ]

  person_less : (t : Tree Line) → (person_field a t ≡ part.carried) ⊎ (person_field a t ≡ person_field b t)
  person_less (node l ts) = by l.tag l.value
    where
      by : (tag : List ℕ) (v : Value) → (person_field a (node (record { tag = tag; value = v }) ts) ≡ part.carried)
          ⊎ (person_field a (node (record { tag = tag; value = v }) ts) ≡ person_field b
          (node (record { tag = tag; value = v }) ts))
      by tag (value.Text t) = inr refl
      by tag (value.Ref n) =
          elim (less n).tag as (λ _. (person_field a (node (record { tag = tag; value = value.Ref n }) ts)
          ≡ part.carried) ⊎ (person_field a (node (record { tag = tag; value = value.Ref n }) ts)
          ≡ person_field b (node (record { tag = tag; value = value.Ref n }) ts))) [
            | inl is ↦ inl (ap (λ x. person_field (record { tag = λ _. x; path = a.path })
                (node (record { tag = tag; value = value.Ref n }) ts)) is ∙ person_none tag n ts a.path)
            | inr is ↦ inr (ap (λ x. person_field (record { tag = λ _. x; path = a.path })
                (node (record { tag = tag; value = value.Ref n }) ts)) is)
          ]

  family_less : (t : Tree Line) → (family_field a t ≡ part.carried) ⊎ (family_field a t ≡ family_field b t)
  family_less (node l ts) = by l.tag l.value
    where
      by : (tag : List ℕ) (v : Value) → (family_field a (node (record { tag = tag; value = v }) ts) ≡ part.carried)
          ⊎ (family_field a (node (record { tag = tag; value = v }) ts) ≡ family_field b
          (node (record { tag = tag; value = v }) ts))
      by tag (value.Text t) = inr refl
      by tag (value.Ref n) =
          elim (less n).tag as (λ _. (family_field a (node (record { tag = tag; value = value.Ref n }) ts)
          ≡ part.carried) ⊎ (family_field a (node (record { tag = tag; value = value.Ref n }) ts)
          ≡ family_field b (node (record { tag = tag; value = value.Ref n }) ts))) [
            | inl is ↦ inl (ap (λ x. family_field (record { tag = λ _. x; path = a.path })
                (node (record { tag = tag; value = value.Ref n }) ts)) is ∙ family_none tag n ts a.path)
            | inr is ↦ inr (ap (λ x. family_field (record { tag = λ _. x; path = a.path })
                (node (record { tag = tag; value = value.Ref n }) ts)) is)
          ]

  event_less : (t : Tree Line) → (event_field a t ≡ part.carried) ⊎ (event_field a t ≡ event_field b t)
  event_less (node l ts) = by l.tag l.value
    where
      by : (tag : List ℕ) (v : Value) → (event_field a (node (record { tag = tag; value = v }) ts) ≡ part.carried)
          ⊎ (event_field a (node (record { tag = tag; value = v }) ts) ≡ event_field b
          (node (record { tag = tag; value = v }) ts))
      by tag (value.Text t) = inr refl
      by tag (value.Ref n) =
          elim (less n).tag as (λ _. (event_field a (node (record { tag = tag; value = value.Ref n }) ts)
          ≡ part.carried) ⊎ (event_field a (node (record { tag = tag; value = value.Ref n }) ts)
          ≡ event_field b (node (record { tag = tag; value = value.Ref n }) ts))) [
            | inl is ↦ inl (ap (λ x. event_field (record { tag = λ _. x; path = a.path })
                (node (record { tag = tag; value = value.Ref n }) ts)) is ∙ event_none tag n ts a.path)
            | inr is ↦ inr (ap (λ x. event_field (record { tag = λ _. x; path = a.path })
                (node (record { tag = tag; value = value.Ref n }) ts)) is)
          ]

  parent_less : (name : List ℕ) (t : Tree Line) → (parent_field a name t ≡ part.carried)
      ⊎ (parent_field a name t ≡ parent_field b name t)
  parent_less name (node l ts) = by l.tag l.value
    where
      by : (tag : List ℕ) (v : Value) → (parent_field a name (node (record { tag = tag; value = v }) ts) ≡ part.carried)
          ⊎ (parent_field a name (node (record { tag = tag; value = v }) ts) ≡ parent_field b name
          (node (record { tag = tag; value = v }) ts))
      by tag (value.Text t) = inr refl
      by tag (value.Ref n) =
          elim (less n).path as (λ _. (parent_field a name (node (record { tag = tag; value = value.Ref n }) ts)
          ≡ part.carried) ⊎ (parent_field a name (node (record { tag = tag; value = value.Ref n }) ts)
          ≡ parent_field b name (node (record { tag = tag; value = value.Ref n }) ts))) [
            | inl is ↦ inl (ap (λ x. parent_field (record { tag = a.tag; path = λ _. x }) name
                (node (record { tag = tag; value = value.Ref n }) ts)) is ∙ parent_none name tag n ts a.tag)
            | inr is ↦ inr (ap (λ x. parent_field (record { tag = a.tag; path = λ _. x }) name
                (node (record { tag = tag; value = value.Ref n }) ts)) is)
          ]

  -- ---- register entries
  mention_less : (o : Option model.Link) → names_person a o ≡ true → names_person b o ≡ true
  mention_less None e = refl
  mention_less (Some l) e = elim (less l.person).tag as (λ _. names_person b (Some l) ≡ true) [
    | inl is ↦ let never : false ≡ true = sym (ap (λ x. bytes_eq x (codes "INDI")) is) ∙ e in absurd cc
    | inr is ↦ sym (ap (λ x. bytes_eq x (codes "INDI")) is) ∙ e
  ]

  mentions_less : (what : EntryKind) (ms : List model.Mention)
      → list_all (λ (m : model.Mention). is_role_of what m.role && names_person a m.link) ms ≡ true
      → list_all (λ (m : model.Mention). is_role_of what m.role && names_person b m.link) ms ≡ true
  mentions_less what [] e = refl
  mentions_less what (m ∷ ms) e =
      let x = and_parts (is_role_of what m.role && names_person a m.link)
      (list_all (λ (n : model.Mention). is_role_of what n.role && names_person a n.link) ms) e in
      let y = and_parts (is_role_of what m.role) (names_person a m.link) x.0 in
      and_from (is_role_of what m.role && names_person b m.link) _
      (and_from (is_role_of what m.role) (names_person b m.link) y.0 (mention_less m.link y.1))
      (mentions_less what ms x.1)

  said_less : (o : Option ℕ) → is_said a o ≡ true → is_said b o ≡ true
  said_less None e = refl
  said_less (Some n) e = elim (less n).path as (λ _. is_said b (Some n) ≡ true) [
    | inl is ↦ let never : false ≡ true = sym (ap is_said_path is) ∙ e in absurd cc
    | inr is ↦ sym (ap is_said_path is) ∙ e
  ]

  lines_less : (e : model.Entry) (o : Option ℕ) → is_said a o ≡ true → entry_lines (around a) (record e { place = o })
      ≡ entry_lines (around b) (record e { place = o })
  lines_less e None h = refl
  lines_less e (Some n) h = elim (less n).path as (λ _. entry_lines (around a) (record e { place = Some n })
      ≡ entry_lines (around b) (record e { place = Some n })) [
        | inl is ↦ let never : false ≡ true = sym (ap is_said_path is) ∙ h in absurd cc
        | inr is ↦ ap (λ x. entry_lines (around (record { tag = a.tag; path = λ _. x })) (record e { place = Some n }))
            is
      ]

  its_lines_less : (v : Value) (ts : Lines) (e : model.Entry) → has_its_lines a v ts e ≡ true
      → has_its_lines b v ts e ≡ true
  its_lines_less v ts e h =
      let x = and_parts (is_some (entry_kind_of (text_in v))) _ h in
      let y = and_parts (is_text_value v) _ x.1 in
      let z = and_parts (same_forest (forest_of ts) (forest_of (entry_lines (around a) e))) (is_entry a e) y.1 in
      let source = and_parts (bytes_eq (a.tag e.source) (codes "SOUR")) _ z.1 in
      let said = and_parts (is_said a e.place) _ source.1 in
      let some = and_parts (nat_le 1 (length e.mentions)) _ said.1 in
      let few = and_parts (nat_le (length e.mentions) 100) _ some.1 in
      let of_source : bytes_eq (b.tag e.source) (codes "SOUR") ≡ true = elim
      (less e.source).tag as (λ _. bytes_eq (b.tag e.source) (codes "SOUR") ≡ true) [
        | inl is ↦ let never : false ≡ true = sym (ap (λ x. bytes_eq x (codes "SOUR")) is) ∙ source.0 in absurd cc
        | inr is ↦ sym (ap (λ x. bytes_eq x (codes "SOUR")) is) ∙ source.0
      ] in
      let rules : is_entry b e ≡ true = and_from (bytes_eq (b.tag e.source) (codes "SOUR")) _ of_source
      (and_from (is_said b e.place) _ (said_less e.place said.0)
      (and_from (nat_le 1 (length e.mentions)) _ some.0
      (and_from (nat_le (length e.mentions) 100) _ few.0 (mentions_less e.kind e.mentions few.1)))) in
      let lines : same_forest (forest_of ts) (forest_of (entry_lines (around b) e)) ≡ true = ap
      (λ us. same_forest (forest_of ts) (forest_of us)) (sym (lines_less e e.place said.0)) ∙ z.0 in
      and_from (is_some (entry_kind_of (text_in v))) _ x.0
      (and_from (is_text_value v) _ y.0
      (and_from (same_forest (forest_of ts) (forest_of (entry_lines (around b) e))) (is_entry b e) lines rules))

  -- what is no entry where more is known is none
  pub no_entry_less : (v : Value) (ts : Lines) → entry_of b v ts ≡ None → entry_of a v ts ≡ None
  unfolding entry_of
  no_entry_less v ts none_there =
      let e : model.Entry = entry_on (text_in v) ts in
      elim (has_its_lines a v ts e) as (λ x. has_its_lines a v ts e ≡ x → entry_if x e ≡ None) [
        | true ↦ λ is. let never : Some e ≡ None = sym (ap (λ x. entry_if x e) (its_lines_less v ts e is))
            ∙ none_there in absurd cc
        | false ↦ λ is. refl
      ] refl

pub untaken_less : (before_a before_b a b : Known) → ((n : ℕ) → IsLess before_a before_b n) → ((n : ℕ) → IsLess a b n)
    → (r : Record) → HasUntaken before_b b r → HasUntaken before_a a r
untaken_less before_a before_b a b earlier less (kind.Place p) u = fewer (parent_field before_a p.name)
    (parent_field before_b p.name) (place_leaves p) refl (parent_less before_a before_b earlier p.name) p.carried u
untaken_less before_a before_b a b earlier less (kind.Repo r) u = u
untaken_less before_a before_b a b earlier less (kind.Source s) u =
    (u.0, fewer (source_field a) (source_field b) (source_leaves s) refl (source_less a b less) s.carried u.1)
untaken_less before_a before_b a b earlier less (kind.Person p) u = fewer (person_field a) (person_field b)
    (person_leaves p) refl (person_less a b less) p.carried u
untaken_less before_a before_b a b earlier less (kind.Family x) u = fewer (family_field a) (family_field b)
    (λ y. family_leaves y) refl (family_less a b less) x.carried u
untaken_less before_a before_b a b earlier less (kind.Citation c) u = u
untaken_less before_a before_b a b earlier less (kind.Event e) u =
    (u.0, fewer (event_field a) (event_field b) (event_leaves e) refl (event_less a b less) e.carried u.1)
untaken_less before_a before_b a b earlier less (kind.Entry e) u = tt
untaken_less before_a before_b a b earlier less (kind.Other o) u = tt

-- ---- a part of the records
module _ (some all : Records) (within : (n : ℕ) (r : Record) → get some n ≡ Some r → get all n ≡ Some r) where
  tag_less : (n : ℕ) → (tag_at (get some n) ≡ []) ⊎ (tag_at (get some n) ≡ tag_at (get all n))
  tag_less n = elim (cases_of some n) as (λ _. (tag_at (get some n) ≡ [])
      ⊎ (tag_at (get some n) ≡ tag_at (get all n))) [
        | inl there ↦ inr (ap tag_at there.1 ∙ sym (ap tag_at (within n there.0 there.1)))
        | inr nothing ↦ inl (ap tag_at nothing)
      ]

  known_less : (n : ℕ) → IsLess (known_of some) (known_of all) n
  known_less n = record { tag = tag_less n; path = path_or_none some all within n }

  before_less : (k n : ℕ) → IsLess (known_before some k) (known_before all k) n
  before_less k n = record {
    tag = tag_less n;
    path = elim (path_or_none some all within n) as (λ _. ((if nat_lt n k then path_of some n else None) ≡ None)
        ⊎ ((if nat_lt n k then path_of some n else None) ≡ (if nat_lt n k then path_of all n else None))) [
          | inl nothing ↦ inl (either_none (nat_lt n k) (path_of some n) nothing)
          | inr same ↦ inr (ap (λ x. if nat_lt n k then x else None) same)
        ];
  }

  pub part_untaken : (n : ℕ) (r : Record) → HasUntaken (known_before all n) (known_of all) r
      → HasUntaken (known_before some n) (known_of some) r
  part_untaken n r u = untaken_less (known_before some n) (known_before all n) (known_of some) (known_of all)
      (before_less n) known_less r u

  pub part_shape : (r : Record) → HasOwnShape all r → HasOwnShape some r
  part_shape (kind.Other o) h =
      record {
        own = h.own;
        no_entry = λ e. no_entry_less (known_of some) (known_of all) known_less o.value o.carried
            (h.no_entry e);
      }
  part_shape (kind.Place p) h = tt
  part_shape (kind.Repo p) h = tt
  part_shape (kind.Source p) h = tt
  part_shape (kind.Person p) h = tt
  part_shape (kind.Family p) h = tt
  part_shape (kind.Citation p) h = tt
  part_shape (kind.Event p) h = tt
  part_shape (kind.Entry p) h = tt

  pub part_room : (r : Record) → HasRoom (owner_in all r) r → HasRoom (owner_in some r) r
  part_room (kind.Citation c) h =
      elim (cases_of some c.owner) as (λ _. AreWithin (room_below (get some c.owner)) c.carried) [
        | inl there ↦ subst (λ o. AreWithin (room_below o) c.carried) (within c.owner there.0 there.1 ∙ sym there.1) h
        | inr nothing ↦ subst (λ o. AreWithin (room_below o) c.carried) (sym nothing)
            (let most : room_below (get all c.owner) ≤ 97 = at_most (get all c.owner) in omega arith)
      ]
  part_room (kind.Event e) h = h
  part_room (kind.Place p) h = h
  part_room (kind.Repo p) h = h
  part_room (kind.Source p) h = h
  part_room (kind.Person p) h = h
  part_room (kind.Family p) h = h
  part_room (kind.Entry p) h = tt
  part_room (kind.Other p) h = h
