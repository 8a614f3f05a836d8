-- Carried lines of places: none is read as that of a parent afterwards.
use Rattle.std.proofs.Common.{
  ◌≡◌,
  ◌⊎◌,
  ℕ,
  List,
  [],
  ◌∷◌,
  ◌++◌,
  Bool,
  true,
  false,
  refl,
  sym,
  ap,
  ◌∙◌,
  inl,
  inr,
}
use Rattle.std.specs.Prelude.{Option, Some, None, not, nat_lt, ◌&&◌, ◌||◌, ◌==◌, codes, if◌then◌else◌}
use Rattle.std.specs.List.{list_all, list_any}
use Rattle.std.proofs.lemmas.Bool.{and_parts}
use Rattle.list_laws.proofs.Booleans.{and_never}
use Rattle.list_laws.proofs.Numbers.{same_self}
use Rattle.stored_lines.specs.Tree.{Forest, Tree, node}
use Rattle.stored_lines.specs.Line.{Line, Lines}
use Rattle.stored_lines.specs.declared.carried.Value.{Value}
use Rattle.stored_lines.specs.declared.carried.Value.TheVariants as value
use Rattle.record_kinds.specs.Model as model
use Rattle.record_shapes.specs.Fields.{a_parent, carried, is_above, parent_field, row}
use Rattle.record_shapes.specs.Forms.{Known, is_childless, is_some, tagged}
use Rattle.record_shapes.specs.Lists.{EachOf}
use Rattle.record_shapes.specs.Untaken.{AreUntaken, place_leaves}
use Rattle.record_shapes.proofs.Each.{each_zip}
use Rattle.archive_state.specs.Content.{Records}
use Rattle.archive_state.specs.Known.{known_before, path_of}
use Rattle.archive_state.specs.Links.{Link, forest_links, line_links, value_links}
use Rattle.place_names.specs.Naming.{is_parent, path_only, takes_parent}
use Rattle.place_names.proofs.Referring.{each_false, each_inside, none_true}

-- ---- lines that a place leaves: it has a parent, or none is that of one
leaves : (q : model.Place) (b : Bool) → (not (is_some q.parent) && b) ≡ false
    → place_leaves q (row b a_parent carried) ≡ true
leaves q false e = refl
leaves q true e = there (is_some q.parent) e
  where
    there : (d : Bool) → (not d && true) ≡ false → d ≡ true
    there true f = refl
    there false f = absurd cc

left : (q : model.Place) (b : Bool) → place_leaves q (row b a_parent carried) ≡ true
    → (not (is_some q.parent) && b) ≡ false
left q false e = and_never (not (is_some q.parent))
left q true e = ap (λ d. not d && true) e

both_none : (d x y : Bool) → (d && (x || y)) ≡ false → ((d && x) ≡ false) × ((d && y) ≡ false)
both_none false x y e = (refl, refl)
both_none true false y e = (refl, e)
both_none true true y e = absurd cc

none_both : (d x y : Bool) → (d && x) ≡ false → (d && y) ≡ false → (d && (x || y)) ≡ false
none_both false x y e f = refl
none_both true false y e f = f
none_both true true y e f = absurd cc

module _ (known : Known) (q : model.Place) where
  abbrev taken : Tree Line → Bool
  taken = is_parent known.path q.name

  abbrev free : Lines → Bool
  free ts = list_all (λ t. place_leaves q (parent_field known q.name t)) ts

  free_if : (ts : Lines) → (not (is_some q.parent) && list_any taken ts) ≡ false → free ts ≡ true
  free_if [] e = refl
  free_if (t ∷ ts) e =
      let both = both_none (not (is_some q.parent)) (taken t) (list_any taken ts) e in
      λ i. leaves q (taken t) both.0 i && free_if ts both.1 i

  if_free : (ts : Lines) → free ts ≡ true → (not (is_some q.parent) && list_any taken ts) ≡ false
  if_free [] e = and_never (not (is_some q.parent))
  if_free (t ∷ ts) e =
      let both = and_parts (place_leaves q (parent_field known q.name t)) (free ts) e in
      none_both (not (is_some q.parent)) (taken t) (list_any taken ts) (left q (taken t) both.0) (if_free ts both.1)

  pub untaken_if : takes_parent known.path q ≡ false → AreUntaken (parent_field known q.name) (place_leaves q) q.carried
  untaken_if e = free_if q.carried e

  pub if_untaken : AreUntaken (parent_field known q.name) (place_leaves q) q.carried → takes_parent known.path q ≡ false
  if_untaken e = if_free q.carried e

-- ---- a place whose lines name numbers that have the path of before, or were looked at
module _ (before after : Records) (k : ℕ) (q : model.Place) where
  -- the number has the path that it had, or another one, by which it takes no line
  abbrev pub Looked : ℕ → Type 0
  Looked j = (path_of after j ≡ path_of before j)
      ⊎ ((path : List ℕ) × (path_of after j ≡ Some path) × ((nat_lt j k && takes_parent (path_only j path) q) ≡ false))

  abbrev was : Tree Line → Bool
  was = is_parent (known_before before k).path q.name

  abbrev now : Tree Line → Bool
  now = is_parent (known_before after k).path q.name

  -- a line of a number
  abbrev pointed : Bool → Bool → Option (List ℕ) → Bool
  pointed a b path = a && (b && is_above q.name path)

  by_path : (j : ℕ) (a b : Bool) (path : List ℕ) → pointed a b (if j == j then Some path else None) ≡ false
      → path_of after j ≡ Some path → pointed a b (path_of after j) ≡ false
  by_path j a b path e there =
      ap (pointed a b) there ∙ sym (ap (λ x. pointed a b (if x then Some path else None)) (same_self j)) ∙ e

  of_number : is_some q.parent ≡ false → (tag : List ℕ) (j : ℕ) (f : Forest Line) → Looked j
      → ((test : Tree Line → Bool) → list_any test q.carried ≡ false
      → test (node (record { tag = tag; value = value.Ref j }) f) ≡ false)
      → was (node (record { tag = tag; value = value.Ref j }) f) ≡ false
      → now (node (record { tag = tag; value = value.Ref j }) f) ≡ false
  of_number top tag j f looked inside e =
      let t : Tree Line = node (record { tag = tag; value = value.Ref j }) f in
      let a : Bool = tagged (codes "_LOC") t in
      let b : Bool = is_childless t in
      elim looked as (λ _. pointed a b (if nat_lt j k then path_of after j else None) ≡ false) [
        | inl same ↦ ap (λ x. pointed a b (if nat_lt j k then x else None)) same ∙ e
        | inr found ↦ elim (nat_lt j k) as (λ x. (x && takes_parent (path_only j found.0) q) ≡ false
            → pointed a b (if x then path_of before j else None) ≡ false
            → pointed a b (if x then path_of after j else None) ≡ false) [
              | true ↦ λ unread old.
                  let none : list_any (is_parent (path_only j found.0) q.name) q.carried ≡ false =
                  sym (ap (λ x. not x && list_any (is_parent (path_only j found.0) q.name) q.carried) top)
                  ∙ unread in
                  by_path j a b found.0 (inside (is_parent (path_only j found.0) q.name) none) found.1
              | false ↦ λ unread old. old
            ] found.2 e
      ]

  of_line : is_some q.parent ≡ false → (t : Tree Line) → EachOf (λ (l : Link). Looked l.0) (line_links t)
      → ((test : Tree Line → Bool) → list_any test q.carried ≡ false → test t ≡ false) → was t ≡ false → now t ≡ false
  of_line top (node l f) named inside e = by l.value named inside e
    where
      by : (v : Value) → EachOf (λ (x : Link). Looked x.0) (value_links v ++ forest_links f)
          → ((test : Tree Line → Bool) → list_any test q.carried ≡ false
          → test (node (record { tag = l.tag; value = v }) f) ≡ false)
          → was (node (record { tag = l.tag; value = v }) f) ≡ false
          → now (node (record { tag = l.tag; value = v }) f) ≡ false
      by (value.Text x) h i u = u
      by (value.Ref j) h i u = of_number top l.tag j f h.0 i u

  pub still_untaken : EachOf (λ t. EachOf (λ (l : Link). Looked l.0) (line_links t)) q.carried
      → takes_parent (known_before before k).path q ≡ false → takes_parent (known_before after k).path q ≡ false
  still_untaken named e =
      elim (is_some q.parent) as (λ b. is_some q.parent ≡ b → (not b && list_any was q.carried) ≡ false
      → (not b && list_any now q.carried) ≡ false) [
        | true ↦ λ top u. refl
        | false ↦ λ top u. none_true now q.carried
            (each_zip (λ t. was t ≡ false) (λ t. ((test : Tree Line → Bool) → list_any test q.carried ≡ false
            → test t ≡ false) × EachOf (λ (l : Link). Looked l.0) (line_links t)) (λ t. now t ≡ false)
            (λ t old h. of_line top t h.1 h.0 old) q.carried (each_false was q.carried u)
            (each_zip (λ t. (test : Tree Line → Bool) → list_any test q.carried ≡ false → test t ≡ false)
            (λ t. EachOf (λ (l : Link). Looked l.0) (line_links t))
            (λ t. ((test : Tree Line → Bool) → list_any test q.carried ≡ false → test t ≡ false)
            × EachOf (λ (l : Link). Looked l.0) (line_links t))
            (λ t x y. (x, y)) q.carried (each_inside q.carried) named))
      ] refl e
