-- A record of no other kind, with positions for numbers, is no entry where it was none before.
use Rattle.std.specs.Prelude.{
  ℕ,
  ◌≡◌,
  ◌&&◌,
  true,
  false,
  List,
  [],
  ◌∷◌,
  codes,
  Option,
  Some,
  None,
  bytes_eq,
  refl,
  MatchOption,
  ◌≢◌,
  nat_le,
  length,
}
use Rattle.std.specs.List.{list_all}
use Rattle.std.specs.Option.{unwrap_or}
use Rattle.std.proofs.Common.{ap, sym, ◌∙◌}
use Rattle.stored_lines.specs.Tree.{Tree, Forest, node, none, more, forest_of, list_of, relabel, relabel_all}
use Rattle.stored_lines.specs.Line.{Line, Lines}
use Rattle.stored_lines.specs.declared.carried.Value.{Value}
use Rattle.stored_lines.specs.declared.carried.Value.TheVariants as value
use Rattle.stored_lines.proofs.Back.{list_of_forest_of}
use Rattle.record_kinds.specs.Model as model
use Rattle.record_fields.specs.Bytes.{bytes_are}
use Rattle.record_fields.specs.Words.{entry_kind_of, entry_kind_word}
use Rattle.record_fields.specs.declared.entry_words.EntryKind.{EntryKind}
use Rattle.record_fields.specs.declared.entry_words.EntryKind.TheVariants as entry_kind
use Rattle.record_fields.proofs.Worded.{entry_kind_exact}
use Rattle.archive_state.specs.Links.{value_links, line_links, forest_links, carried_links, at_level_0}
use Rattle.record_shapes.specs.Forms.{Known, is_some}
use Rattle.record_shapes.specs.Roles.{is_role_of}
use Rattle.record_shapes.specs.Lists.{EachOf}
use Rattle.record_shapes.specs.Entries.{
  same_value,
  same_tree,
  same_forest,
  entry_on,
  entry_if,
  has_its_lines,
  is_entry,
  is_said,
  is_said_path,
  names_person,
  entry_of,
  around,
}
use Rattle.record_shapes.specs.Shapes.{entry_lines}
use Rattle.record_shapes.specs.Readable.{IsReadableOther}
use Rattle.record_shapes.proofs.Entries.{entry_back}
use Rattle.archive_state.specs.Content.{Records}
use Rattle.archive_state.specs.Merging.{value_with, line_with, lines_with, entry_with, other_with}
use Rattle.archive_state.specs.Sound as sound
use Rattle.round_trip.specs.OrderLaws.{IsAroundWith}
use Rattle.round_trip.proofs.Renamed as renamed
use Rattle.round_trip.proofs.Reshaped.{is_entry_alike}
use Rattle.record_shapes.proofs.EntryLines.{value_is}
use Rattle.list_laws.proofs.Booleans.{both_true, true_not_false}
use Rattle.record_shapes.proofs.Each.{each_parts}

-- ---- lines that are found the same are the same

mutual
  same_trees : (t u : Tree Line) → same_tree t u ≡ true → t ≡ u
  same_trees (node l f) (node k g) h =
      let a : (bytes_eq l.tag k.tag ≡ true) × ((same_value l.value k.value && same_forest f g) ≡ true) =
      both_true (bytes_eq l.tag k.tag) (same_value l.value k.value && same_forest f g) h in
      let b : (same_value l.value k.value ≡ true) × (same_forest f g ≡ true) =
      both_true (same_value l.value k.value) (same_forest f g) a.1 in
      λ i. node (record { tag = bytes_are l.tag k.tag a.0 i; value = value_is l.value k.value b.0 i })
      (same_forests f g b.1 i)

  same_forests : (f g : Forest Line) → same_forest f g ≡ true → f ≡ g
  same_forests none none h = refl
  same_forests (more t f) (more u g) h =
      let a : (same_tree t u ≡ true) × (same_forest f g ≡ true) = both_true (same_tree t u) (same_forest f g) h in
      λ i. more (same_trees t u a.0 i) (same_forests f g a.1 i)
  same_forests none (more u g) h = absurd (true_not_false (sym h))
  same_forests (more t f) none h = absurd (true_not_false (sym h))

-- ---- numbers changed and changed back
module _ (m : Records) (f g : ℕ → ℕ) (back : (n : ℕ) → sound.Stands m (n, at_level_0) → g (f n) ≡ n) where
  value_back : (v : Value) → EachOf (sound.Stands m) (value_links v) → value_with g (value_with f v) ≡ v
  value_back (value.Text t) h = refl
  value_back (value.Ref n) h = ap value.Ref (back n h.0)

  mutual
    tree_back : (t : Tree Line) → EachOf (sound.Stands m) (line_links t)
        → relabel (line_with g) (relabel (line_with f) t) ≡ t
    tree_back (node l ts) h =
        let both : EachOf (sound.Stands m) (value_links l.value)
        × EachOf (sound.Stands m) (forest_links ts) = each_parts (sound.Stands m) (value_links l.value)
        (forest_links ts) h in
        λ i. node (record { tag = l.tag; value = value_back l.value both.0 i }) (forest_back ts both.1 i)

    forest_back : (ts : Forest Line) → EachOf (sound.Stands m) (forest_links ts)
        → relabel_all (line_with g) (relabel_all (line_with f) ts) ≡ ts
    forest_back none h = refl
    forest_back (more t ts) h =
        let both : EachOf (sound.Stands m) (line_links t) × EachOf (sound.Stands m) (forest_links ts) =
        each_parts (sound.Stands m) (line_links t) (forest_links ts) h in
        λ i. more (tree_back t both.0 i) (forest_back ts both.1 i)

  lines_back : (ts : Lines) → EachOf (sound.Stands m) (carried_links ts) → lines_with g (lines_with f ts) ≡ ts
  lines_back [] h = refl
  lines_back (t ∷ ts) h =
      let both : EachOf (sound.Stands m) (line_links t) × EachOf (sound.Stands m) (carried_links ts) =
      each_parts (sound.Stands m) (line_links t) (carried_links ts) h in
      λ i. tree_back t both.0 i ∷ lines_back ts both.1 i

  -- ---- entries
  module _ (k j : Known) (tags : (n : ℕ) → k.tag (g n) ≡ j.tag n) (paths : (n : ℕ) → k.path (g n) ≡ j.path n) where
    arounds : IsAroundWith g (around j) (around k)
    arounds = record { paths = λ n. ap (λ o. unwrap_or o []) (paths n); child_in = λ n. refl; partner_in = λ n. refl }

    -- lines with other numbers that are those of an entry come from those of an entry
    lines_of_entry : (ts : Lines) (e : model.Entry) → EachOf (sound.Stands m) (carried_links ts)
        → same_forest (forest_of (lines_with f ts)) (forest_of (entry_lines (around j) e)) ≡ true
        → ts ≡ entry_lines (around k) (entry_with g e)
    lines_of_entry ts e h s =
        let same : lines_with f ts ≡ entry_lines (around j) e =
        sym (list_of_forest_of (lines_with f ts))
        ∙ ap list_of (same_forests (forest_of (lines_with f ts)) (forest_of (entry_lines (around j) e)) s)
        ∙ list_of_forest_of (entry_lines (around j) e) in
        sym (lines_back ts h) ∙ ap (lines_with g) same ∙ renamed.entry g (around j) (around k) arounds e

    said_word : (w : List ℕ) → is_some (entry_kind_of w) ≡ true
        → entry_kind_word (unwrap_or (entry_kind_of w) entry_kind.Baptism) ≡ w
    said_word w h = by (entry_kind_of w) h (entry_kind_exact w (entry_kind_of w) refl)
      where
        by : (o : Option EntryKind) → is_some o ≡ true
            → MatchOption o ((x : EntryKind) → w ≢ entry_kind_word x) (λ x. w ≡ entry_kind_word x)
            → entry_kind_word (unwrap_or o entry_kind.Baptism) ≡ w
        by None z e = absurd (true_not_false (sym z))
        by (Some x) z e = sym e

    -- the paths that an entry's place asks for
    place_said : (e : model.Entry) → is_entry k e ≡ true → (n : ℕ) → e.place ≡ Some n
        → k.path n ≡ Some ((around k).path n)
    place_said e h n p =
        let rest = nat_le 1 (length e.mentions)
        && (nat_le (length e.mentions) 100
        && list_all (λ (x : model.Mention). is_role_of e.kind x.role && names_person k x.link) e.mentions) in
        let a : (bytes_eq (k.tag e.source) (codes "SOUR") ≡ true)
        × ((is_said k e.place && rest) ≡ true) = both_true (bytes_eq (k.tag e.source) (codes "SOUR"))
        (is_said k e.place && rest) h in
        by (k.path n) (ap (is_said k) (sym p) ∙ (both_true (is_said k e.place) rest a.1).0)
      where
        by : (o : Option (List ℕ)) → is_said_path o ≡ true → o ≡ Some (unwrap_or o [])
        by None z = absurd (true_not_false (sym z))
        by (Some t) z = refl

    found_back : (w : List ℕ) (ts : Lines) → EachOf (sound.Stands m) (carried_links ts)
        → has_its_lines j (value.Text w) (lines_with f ts) (entry_on w (lines_with f ts)) ≡ true
        → (e : model.Entry) × (entry_of k (value.Text w) ts ≡ Some e)
    found_back w ts h s =
        let e = entry_on w (lines_with f ts) in
        let a : (is_some (entry_kind_of w) ≡ true)
        × ((same_forest (forest_of (lines_with f ts)) (forest_of (entry_lines (around j) e)) && is_entry j e)
        ≡ true) = both_true (is_some (entry_kind_of w))
        (same_forest (forest_of (lines_with f ts)) (forest_of (entry_lines (around j) e)) && is_entry j e) s in
        let b : (same_forest (forest_of (lines_with f ts)) (forest_of (entry_lines (around j) e)) ≡ true)
        × (is_entry j e ≡ true) =
        both_true (same_forest (forest_of (lines_with f ts)) (forest_of (entry_lines (around j) e))) (is_entry j e)
        a.1 in
        let is : is_entry k (entry_with g e) ≡ true = is_entry_alike g j k tags paths e ∙ b.1 in (
          entry_with g e,
          ap (λ us. entry_of k (value.Text w) us) (lines_of_entry ts e h b.0)
              ∙ ap (λ x. entry_of k (value.Text x) (entry_lines (around k) (entry_with g e))) (sym (said_word w a.0))
              ∙ entry_back k (around k) (entry_with g e) is (place_said (entry_with g e) is),
        )

    none_found : (v : Value) (ts : Lines) → EachOf (sound.Stands m) (carried_links ts) → entry_of k v ts ≡ None
        → entry_of j (value_with f v) (lines_with f ts) ≡ None
    unfolding entry_of
    none_found (value.Ref n) ts h e = refl
    none_found (value.Text w) ts h e =
        let x = entry_on w (lines_with f ts) in
        elim (has_its_lines j (value.Text w) (lines_with f ts) x)
        as (λ b. has_its_lines j (value.Text w) (lines_with f ts) x ≡ b → entry_if b x ≡ None) [
          | true ↦ λ t. let y : (z : model.Entry) × (entry_of k (value.Text w) ts ≡ Some z) = found_back w ts h t in
              let two : Some y.0 ≡ None = sym y.1 ∙ e in cc
          | false ↦ λ t. refl
        ] refl

    pub other_alike : (o : model.Other) → EachOf (sound.Stands m) (carried_links o.carried) → IsReadableOther k o
        → IsReadableOther j (other_with f o)
    other_alike o h is = record {
      own = is.own;
      no_entry = λ t. none_found o.value o.carried h (is.no_entry t);
    }
