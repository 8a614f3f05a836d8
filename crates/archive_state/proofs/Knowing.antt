-- What lines say of the numbers on them depends on what is known only of these numbers.
use Rattle.std.proofs.Common.{◌≡◌, ℕ, List, [], ◌∷◌, ◌++◌, Bool, true, false, refl, sym, ap, ◌∙◌, cond}
use Rattle.std.specs.Prelude.{Option, Some, None, option_map, IfSome, codes, bytes_eq, length, nat_le, map, ◌&&◌}
use Rattle.std.specs.List.{filter, list_all, flat_map}
use Rattle.stored_lines.specs.Tree.{Tree, Forest, node, none, more, forest_of, list_of}
use Rattle.stored_lines.specs.Line.{Line, Lines}
use Rattle.stored_lines.specs.declared.carried.Value.{Value}
use Rattle.stored_lines.specs.declared.carried.Value.TheVariants as value
use Rattle.record_kinds.specs.Model as model
use Rattle.record_kinds.specs.declared.record.Record.{Record}
use Rattle.record_kinds.specs.declared.record.Record.TheVariants as kind
use Rattle.record_fields.specs.declared.entry_words.EntryKind.{EntryKind}
use Rattle.record_fields.specs.Words.{entry_kind_of}
use Rattle.archive_state.specs.Links.{
  Link,
  a_place,
  at_level_0,
  links,
  field_links,
  value_links,
  line_links,
  forest_links,
  holding_links,
  name_links,
  partner_links,
  child_links,
  place_line_links,
  participant_links,
  carried_links,
}
use Rattle.record_shapes.specs.Lists.{EachOf}
use Rattle.record_shapes.specs.Roles.{is_role_of}
use Rattle.record_shapes.specs.Forms.{Known, is_some, is_text_value, text_in, number_in, number_of, tagged, below}
use Rattle.record_shapes.specs.declared.field.Field.{Field}
use Rattle.record_shapes.specs.Fields.{source_field, person_field, family_field, event_field, parent_field}
use Rattle.record_shapes.specs.Picking.{first}
use Rattle.record_shapes.specs.Shapes.{entry_lines}
use Rattle.record_shapes.specs.Entries.{
  same_forest,
  number_on,
  below_on,
  link_on,
  mention_on,
  entry_on,
  is_said_path,
  is_said,
  names_person,
  around,
  entry_if,
  entry_of,
}
use Rattle.record_shapes.specs.Untaken.{
  place_leaves,
  source_leaves,
  person_leaves,
  family_leaves,
  event_leaves,
  HasUntaken,
}
use Rattle.record_shapes.proofs.Each.{each_front, each_back}

-- both know the same tag and the same path of a number
pub record AgreeAt (a b : Known) (n : ℕ) : Type 0 where
  pub tag : a.tag n ≡ b.tag n
  pub path : a.path n ≡ b.path n

-- P holds of the numbers that are there, and of these both know the same
module _ (P : Link → Type 0) (a b : Known) (same : (n : ℕ) → P (n, at_level_0) → AgreeAt a b n) where
  -- ---- fields
  source_same : (t : Tree Line) → EachOf P (line_links t) → source_field a t ≡ source_field b t
  source_same (node l f) h = by l.value h
    where
      by : (v : Value) → EachOf P (value_links v ++ forest_links f)
          → source_field a (node (record { tag = l.tag; value = v }) f) ≡ source_field b
          (node (record { tag = l.tag; value = v }) f)
      by (value.Text t) h = refl
      by (value.Ref k) h = ap (λ x. source_field (record { tag = λ _. x; path = a.path })
          (node (record { tag = l.tag; value = value.Ref k }) f)) (same k h.0).tag

  person_same : (t : Tree Line) → EachOf P (line_links t) → person_field a t ≡ person_field b t
  person_same (node l f) h = by l.value h
    where
      by : (v : Value) → EachOf P (value_links v ++ forest_links f)
          → person_field a (node (record { tag = l.tag; value = v }) f) ≡ person_field b
          (node (record { tag = l.tag; value = v }) f)
      by (value.Text t) h = refl
      by (value.Ref k) h = ap (λ x. person_field (record { tag = λ _. x; path = a.path })
          (node (record { tag = l.tag; value = value.Ref k }) f)) (same k h.0).tag

  family_same : (t : Tree Line) → EachOf P (line_links t) → family_field a t ≡ family_field b t
  family_same (node l f) h = by l.value h
    where
      by : (v : Value) → EachOf P (value_links v ++ forest_links f)
          → family_field a (node (record { tag = l.tag; value = v }) f) ≡ family_field b
          (node (record { tag = l.tag; value = v }) f)
      by (value.Text t) h = refl
      by (value.Ref k) h = ap (λ x. family_field (record { tag = λ _. x; path = a.path })
          (node (record { tag = l.tag; value = value.Ref k }) f)) (same k h.0).tag

  event_same : (t : Tree Line) → EachOf P (line_links t) → event_field a t ≡ event_field b t
  event_same (node l f) h = by l.value h
    where
      by : (v : Value) → EachOf P (value_links v ++ forest_links f)
          → event_field a (node (record { tag = l.tag; value = v }) f) ≡ event_field b
          (node (record { tag = l.tag; value = v }) f)
      by (value.Text t) h = refl
      by (value.Ref k) h = ap (λ x. event_field (record { tag = λ _. x; path = a.path })
          (node (record { tag = l.tag; value = value.Ref k }) f)) (same k h.0).tag

  -- the line of a place above, where earlier and later know the same paths of these numbers
  parent_same : (earlier later : Known) → ((n : ℕ) → P (n, at_level_0) → earlier.path n ≡ later.path n)
      → (name : List ℕ) (t : Tree Line) → EachOf P (line_links t) → parent_field earlier name t
      ≡ parent_field later name t
  parent_same earlier later paths name (node l f) h = by l.value h
    where
      by : (v : Value) → EachOf P (value_links v ++ forest_links f) → parent_field earlier name
          (node (record { tag = l.tag; value = v }) f) ≡ parent_field later name
          (node (record { tag = l.tag; value = v }) f)
      by (value.Text t) h = refl
      by (value.Ref k) h = ap (λ x. parent_field (record { tag = earlier.tag; path = λ _. x }) name
          (node (record { tag = l.tag; value = value.Ref k }) f)) (paths k h.0)

  -- ---- carried lines
  all_same : (f g : Tree Line → Field) (leaves : Field → Bool) → ((t : Tree Line) → EachOf P (line_links t) → f t ≡ g t)
      → (ts : Lines) → EachOf P (carried_links ts) → list_all (λ t. leaves (g t)) ts ≡ list_all (λ t. leaves (f t)) ts
  all_same f g leaves e [] h = refl
  all_same f g leaves e (t ∷ ts) h =
      λ i. leaves (sym (e t (each_front P (line_links t) (carried_links ts) h)) i) && all_same f g leaves e ts
      (each_back P (line_links t) (carried_links ts) h) i

  pub untaken_same : (earlier later : Known) (r : Record)
      → ((n : ℕ) → P (n, at_level_0) → earlier.path n ≡ later.path n) → EachOf P (links r) → HasUntaken earlier a r
      → HasUntaken later b r
  untaken_same earlier later (kind.Place p) paths h u =
      all_same (parent_field earlier p.name) (parent_field later p.name) (place_leaves p)
      (parent_same earlier later paths p.name) p.carried
      (each_back P (field_links a_place p.parent) (carried_links p.carried) h) ∙ u
  untaken_same earlier later (kind.Repo r) paths h u = u
  untaken_same earlier later (kind.Source s) paths h u = (
    u.0,
    all_same (source_field a) (source_field b) (source_leaves s) source_same s.carried
        (each_back P (flat_map holding_links s.holdings) (carried_links s.carried) h) ∙ u.1,
  )
  untaken_same earlier later (kind.Person p) paths h u =
      all_same (person_field a) (person_field b) (person_leaves p) person_same p.carried
      (each_back P (flat_map name_links p.names) (carried_links p.carried) h) ∙ u
  untaken_same earlier later (kind.Family x) paths h u =
      all_same (family_field a) (family_field b) (λ x. family_leaves x) family_same x.carried
      (each_back P (flat_map child_links x.children) (carried_links x.carried)
      (each_back P (flat_map partner_links x.partners)
      (flat_map child_links x.children ++ carried_links x.carried) h)) ∙ u
  untaken_same earlier later (kind.Citation c) paths h u = u
  untaken_same earlier later (kind.Event e) paths h u = (
    u.0,
    all_same (event_field a) (event_field b) (event_leaves e) event_same e.carried
        (each_back P (flat_map participant_links e.participants) (carried_links e.carried)
        (each_back P (place_line_links e.place)
        (flat_map participant_links e.participants ++ carried_links e.carried) h.1)) ∙ u.1,
  )
  untaken_same earlier later (kind.Entry e) paths h u = tt
  untaken_same earlier later (kind.Other o) paths h u = tt

  -- ---- register entries
  module _ (zero_same : AgreeAt a b 0) where
    abbrev Fine : Tree Line → Type 0
    Fine t = EachOf P (line_links t)

    number_same : (v : Value) → EachOf P (value_links v) → AgreeAt a b (number_in v)
    number_same (value.Text t) h = zero_same
    number_same (value.Ref k) h = same k h.0

    line_same : (t : Tree Line) → Fine t → AgreeAt a b (number_of t)
    line_same (node l f) h = number_same l.value (each_front P (value_links l.value) (forest_links f) h)

    fine_all : (ts : Lines) → EachOf P (carried_links ts) → EachOf Fine ts
    fine_all [] h = tt
    fine_all (t ∷ ts) h = (
      each_front P (line_links t) (carried_links ts) h,
      fine_all ts (each_back P (line_links t) (carried_links ts) h),
    )

    fine_forest : (f : Forest Line) → EachOf P (forest_links f) → EachOf Fine (list_of f)
    fine_forest none h = tt
    fine_forest (more t f) h = (
      each_front P (line_links t) (forest_links f) h,
      fine_forest f (each_back P (line_links t) (forest_links f) h),
    )

    fine_below : (t : Tree Line) → Fine t → EachOf Fine (below t)
    fine_below (node l f) h = fine_forest f (each_back P (value_links l.value) (forest_links f) h)

    first_same : (p : Tree Line → Bool) (ts : Lines) → EachOf Fine ts → AgreeAt a b (number_on (first (filter p ts)))
    first_same p [] h = zero_same
    first_same p (t ∷ ts) h =
        elim (p t) as (λ x. AgreeAt a b (number_on (first (cond x (t ∷ filter p ts) (filter p ts))))) [
          | true ↦ line_same t h.0
          | false ↦ first_same p ts h.1
        ]

    first_below : (p : Tree Line → Bool) (ts : Lines) → EachOf Fine ts → EachOf Fine (below_on (first (filter p ts)))
    first_below p [] h = tt
    first_below p (t ∷ ts) h =
        elim (p t) as (λ x. EachOf Fine (below_on (first (cond x (t ∷ filter p ts) (filter p ts))))) [
          | true ↦ fine_below t h.0
          | false ↦ first_below p ts h.1
        ]

    link_same : (p : Tree Line → Bool) (ts : Lines) → EachOf Fine ts → names_person a (link_on (first (filter p ts)))
        ≡ names_person b (link_on (first (filter p ts)))
    link_same p [] h = refl
    link_same p (t ∷ ts) h =
        elim (p t) as (λ x. names_person a (link_on (first (cond x (t ∷ filter p ts) (filter p ts))))
        ≡ names_person b (link_on (first (cond x (t ∷ filter p ts) (filter p ts))))) [
          | true ↦ ap (λ x. bytes_eq x (codes "INDI")) (line_same t h.0).tag
          | false ↦ link_same p ts h.1
        ]

    abbrev are_right : Known → EntryKind → List model.Mention → Bool
    are_right k what ms = list_all (λ (m : model.Mention). is_role_of what m.role && names_person k m.link) ms

    mentions_same : (what : EntryKind) (p : Tree Line → Bool) (ts : Lines) → EachOf Fine ts
        → are_right a what (map mention_on (filter p ts)) ≡ are_right b what (map mention_on (filter p ts))
    mentions_same what p [] h = refl
    mentions_same what p (t ∷ ts) h =
        elim (p t) as (λ x. are_right a what (map mention_on (cond x (t ∷ filter p ts) (filter p ts)))
        ≡ are_right b what (map mention_on (cond x (t ∷ filter p ts) (filter p ts)))) [
          | true ↦ λ i. (is_role_of what (mention_on t).role && link_same (tagged (codes "_LINK")) (below t)
              (fine_below t h.0) i) && mentions_same what p ts h.1 i
          | false ↦ mentions_same what p ts h.1
        ]

    -- the place of an entry
    abbrev PathsAgree : Option ℕ → Type 0
    PathsAgree o = IfSome o (λ n. a.path n ≡ b.path n)

    place_same : (p : Tree Line → Bool) (ts : Lines) → EachOf Fine ts
        → PathsAgree (option_map number_of (first (filter p ts)))
    place_same p [] h = tt
    place_same p (t ∷ ts) h =
        elim (p t) as (λ x. PathsAgree (option_map number_of (first (cond x (t ∷ filter p ts) (filter p ts))))) [
          | true ↦ (line_same t h.0).path
          | false ↦ place_same p ts h.1
        ]

    said_same : (o : Option ℕ) → PathsAgree o → is_said a o ≡ is_said b o
    said_same None h = refl
    said_same (Some n) h = ap is_said_path h

    lines_same : (e : model.Entry) (o : Option ℕ) → PathsAgree o → entry_lines (around a) (record e { place = o })
        ≡ entry_lines (around b) (record e { place = o })
    lines_same e None h = refl
    lines_same e (Some n) h =
        ap (λ x. entry_lines (around (record { tag = a.tag; path = λ _. x })) (record e { place = Some n })) h

    pub entry_same : (v : Value) (ts : Lines) → EachOf P (carried_links ts) → entry_of a v ts ≡ entry_of b v ts
    unfolding entry_of
    entry_same v ts h =
        let e : model.Entry = entry_on (text_in v) ts in
        let fine : EachOf Fine ts = fine_all ts h in
        let place : PathsAgree e.place = place_same (tagged (codes "_LOC")) _
        (first_below (tagged (codes "PLAC")) ts fine) in
        λ i. entry_if (is_some (entry_kind_of (text_in v))
        && (is_text_value v && (same_forest (forest_of ts) (forest_of (lines_same e e.place place i))
        && (bytes_eq ((first_same (tagged (codes "SOUR")) ts fine).tag i) (codes "SOUR") && (said_same e.place place i
        && (nat_le 1 (length e.mentions) &&
        (nat_le (length e.mentions) 100 && mentions_same e.kind (tagged (codes "_MENT")) ts fine i))))))) e
