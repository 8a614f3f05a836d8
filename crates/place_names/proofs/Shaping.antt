-- Of all paths only that of its place says whether a record of no other kind has the shape of a register entry.
use Rattle.std.proofs.Common.{◌≡◌, ℕ, List, [], ◌∷◌, Bool, true, false, length, nat_le, cond, refl, sym, ap, ◌∙◌}
use Rattle.std.specs.Prelude.{Option, Some, None, option_map, IfSome, codes, bytes_eq, ◌&&◌}
use Rattle.std.specs.List.{filter, list_all}
use Rattle.std.proofs.lemmas.Bool.{and_parts}
use Rattle.stored_lines.specs.Tree.{Forest, Tree, forest_of, list_of, more, node, none}
use Rattle.stored_lines.specs.Line.{Line, Lines}
use Rattle.stored_lines.specs.declared.carried.Value.{Value}
use Rattle.stored_lines.specs.declared.carried.Value.TheVariants as value
use Rattle.record_fields.specs.Words.{entry_kind_of}
use Rattle.record_kinds.specs.Model as model
use Rattle.record_shapes.specs.Entries.{
  around,
  below_on,
  entry_if,
  entry_of,
  entry_on,
  has_its_lines,
  is_entry,
  is_said,
  is_said_path,
  names_person,
  same_forest,
}
use Rattle.record_shapes.specs.Forms.{Known, below, is_some, is_text_value, number_in, number_of, tagged, text_in}
use Rattle.record_shapes.specs.Lists.{EachOf}
use Rattle.record_shapes.specs.Picking.{first}
use Rattle.record_shapes.specs.Roles.{is_role_of}
use Rattle.record_shapes.specs.Shapes.{entry_lines}
use Rattle.record_shapes.proofs.Each.{each_back, each_front, each_of_flat}
use Rattle.archive_state.specs.Links.{Link, carried_links, forest_links, line_links, value_links}

-- ---- the place of an entry is a number on its lines, or 0
module _ (R : ℕ → Type 0) (at_zero : R 0) where
  abbrev Fine : Tree Line → Type 0
  Fine t = EachOf (λ (l : Link). R l.0) (line_links t)

  in_value : (v : Value) → EachOf (λ (l : Link). R l.0) (value_links v) → R (number_in v)
  in_value (value.Text t) h = at_zero
  in_value (value.Ref k) h = h.0

  on_line : (t : Tree Line) → Fine t → R (number_of t)
  on_line (node l f) h =
      in_value l.value (each_front (λ (x : Link). R x.0) (value_links l.value) (forest_links f) h)

  in_forest : (f : Forest Line) → EachOf (λ (l : Link). R l.0) (forest_links f) → EachOf Fine (list_of f)
  in_forest none h = tt
  in_forest (more t f) h = (
    each_front (λ (l : Link). R l.0) (line_links t) (forest_links f) h,
    in_forest f (each_back (λ (l : Link). R l.0) (line_links t) (forest_links f) h),
  )

  below_it : (t : Tree Line) → Fine t → EachOf Fine (below t)
  below_it (node l f) h =
      in_forest f (each_back (λ (x : Link). R x.0) (value_links l.value) (forest_links f) h)

  on_first : (p : Tree Line → Bool) (ts : Lines) → EachOf Fine ts
      → IfSome (option_map number_of (first (filter p ts))) R
  on_first p [] h = tt
  on_first p (t ∷ ts) h =
      elim (p t) as (λ x. IfSome (option_map number_of (first (cond x (t ∷ filter p ts) (filter p ts)))) R) [
        | true ↦ on_line t h.0
        | false ↦ on_first p ts h.1
      ]

  below_first : (p : Tree Line → Bool) (ts : Lines) → EachOf Fine ts → EachOf Fine (below_on (first (filter p ts)))
  below_first p [] h = tt
  below_first p (t ∷ ts) h =
      elim (p t) as (λ x. EachOf Fine (below_on (first (cond x (t ∷ filter p ts) (filter p ts))))) [
        | true ↦ below_it t h.0
        | false ↦ below_first p ts h.1
      ]

  pub place_named : (v : Value) (ts : Lines) → EachOf (λ (l : Link). R l.0) (carried_links ts)
      → IfSome (entry_on (text_in v) ts).place R
  place_named v ts h =
      on_first (tagged (codes "_LOC")) (below_on (first (filter (tagged (codes "PLAC")) ts)))
      (below_first (tagged (codes "PLAC")) ts (each_of_flat (λ (l : Link). R l.0) line_links ts h))

-- ---- the same with other paths
module _ (tags : ℕ → List ℕ) (f g : ℕ → Option (List ℕ)) where
  abbrev one : Known
  one = record { tag = tags; path = f }

  abbrev two : Known
  two = record { tag = tags; path = g }

  abbrev PathsAgree : Option ℕ → Type 0
  PathsAgree o = IfSome o (λ n. f n ≡ g n)

  said_same : (o : Option ℕ) → PathsAgree o → is_said one o ≡ is_said two o
  said_same None h = refl
  said_same (Some n) h = ap is_said_path h

  lines_same : (e : model.Entry) (o : Option ℕ) → PathsAgree o → entry_lines (around one) (record e { place = o })
      ≡ entry_lines (around two) (record e { place = o })
  lines_same e None h = refl
  lines_same e (Some n) h =
      ap (λ x. entry_lines (around (record { tag = tags; path = λ _. x })) (record e { place = Some n })) h

  person_same : (l : Option model.Link) → names_person one l ≡ names_person two l
  person_same None = refl
  person_same (Some l) = refl

  -- it says something of the place of an entry
  some_if : (b : Bool) (e : model.Entry) → is_some (entry_if b e) ≡ b
  some_if true e = refl
  some_if false e = refl

  pub said_if : (v : Value) (ts : Lines) → is_some (entry_of one v ts) ≡ true
      → is_said one (entry_on (text_in v) ts).place ≡ true
  unfolding entry_of
  said_if v ts is =
      let e : model.Entry = entry_on (text_in v) ts in
      let all = sym (some_if (has_its_lines one v ts e) e) ∙ is in
      let shape = (and_parts (is_some (entry_kind_of (text_in v))) (is_text_value v
      && (same_forest (forest_of ts) (forest_of (entry_lines (around one) e)) && is_entry one e)) all).1 in
      let lines = (and_parts (is_text_value v) (same_forest (forest_of ts) (forest_of (entry_lines (around one) e))
      && is_entry one e) shape).1 in
      let entry = (and_parts (same_forest (forest_of ts) (forest_of (entry_lines (around one) e))) (is_entry one e)
      lines).1 in
      let rules = (and_parts (bytes_eq (tags e.source) (codes "SOUR")) (is_said one e.place
      && (nat_le 1 (length e.mentions) && (nat_le (length e.mentions) 100
      && list_all (λ (m : model.Mention). is_role_of e.kind m.role && names_person one m.link) e.mentions))) entry).1 in
      (and_parts (is_said one e.place) (nat_le 1 (length e.mentions) && (nat_le (length e.mentions) 100
      && list_all (λ (m : model.Mention). is_role_of e.kind m.role && names_person one m.link) e.mentions)) rules).0

  pub entry_by_path : (v : Value) (ts : Lines) → PathsAgree (entry_on (text_in v) ts).place
      → entry_of one v ts ≡ entry_of two v ts
  unfolding entry_of
  entry_by_path v ts place =
      let e : model.Entry = entry_on (text_in v) ts in
      λ i. entry_if (is_some (entry_kind_of (text_in v))
      && (is_text_value v && (same_forest (forest_of ts) (forest_of (lines_same e e.place place i))
      && (bytes_eq (tags e.source) (codes "SOUR") && (said_same e.place place i && (nat_le 1 (length e.mentions)
      && (nat_le (length e.mentions) 100
      && list_all (λ (m : model.Mention). is_role_of e.kind m.role && person_same m.link i) e.mentions))))))) e
