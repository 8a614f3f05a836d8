-- The nodes of an export are found again, with positions for numbers.
use Rattle.std.specs.Prelude.{
  ℕ,
  zero,
  suc,
  ◌≡◌,
  ◌+◌,
  ◌<◌,
  ◌≤◌,
  ◌^◌,
  ◌==◌,
  ◌||◌,
  ◌&&◌,
  not,
  nat_lt,
  Bool,
  true,
  false,
  cond,
  List,
  [],
  ◌∷◌,
  ◌++◌,
  map,
  length,
  drop,
  codes,
  Option,
  Some,
  None,
  option_map,
  bytes_eq,
  refl,
  decimal,
}
use Rattle.std.specs.List.{filter, list_any}
use Rattle.std.specs.FinMap.{get, entries}
use Rattle.std.proofs.Common.{ap, sym, ◌∙◌, arith, eqb}
use Rattle.std.proofs.lemmas.Bool.{eqb-true}
use Rattle.std.proofs.lemmas.List.{append_cancel_right}
use Rattle.std.proofs.lemmas.Fmt.{decimal_injective}
use Rattle.std.proofs.lemmas.Simd.{map-map}
use Rattle.stored_lines.specs.Tree.{Tree, Forest, node, none, more, children, label, relabel, relabel_all}
use Rattle.stored_lines.specs.Line.{Line}
use Rattle.stored_lines.specs.declared.carried.Value.{Value}
use Rattle.stored_lines.specs.declared.carried.Value.TheVariants as value
use Rattle.record_kinds.specs.Model as model
use Rattle.record_kinds.specs.declared.record.Record.{Record}
use Rattle.record_kinds.specs.declared.record.Record.TheVariants as kind
use Rattle.record_fields.specs.Bytes.{bytes_are, bytes_same}
use Rattle.archive_state.specs.Links.{Link, at_level_0, is_wanted, value_links, line_links, forest_links, carried_links}
use Rattle.record_shapes.specs.Lists.{EachOf}
use Rattle.archive_state.specs.Content.{Content, Records}
use Rattle.archive_state.specs.Merging.{value_with, line_with}
use Rattle.archive_state.specs.Sound.{IsSound, IsNumber}
use Rattle.archive_state.specs.Sound as sound
use Rattle.gedcom_tree.specs.Forest.{Item}
use Rattle.gedcom_tree.specs.Text.{IsSame}
use Rattle.import_definitions.specs.Kinds.{is_other, kind_named}
use Rattle.import_definitions.specs.Nodes.{FileNode}
use Rattle.import_definitions.specs.Roots.{
  behind_first,
  candidates,
  is_called,
  is_kept,
  is_society,
  kept,
  leads,
  names_one,
  pointer_in,
}
use Rattle.import_definitions.specs.Lines.{
  Lined,
  lined_root,
  place_in,
  position_from,
  put,
  resolve,
  resolved,
  root_value,
  roots,
  unlined,
}
use Rattle.node_writing.specs.Header.{header}
use Rattle.node_writing.specs.Nodes.{mark_of, named, named_value}
use Rattle.gedcom_export.specs.Forest.{exported, node_of}
use Rattle.gedcom_export.specs.Names.{letter_at, name_of, name_with}
use Rattle.gedcom_export.specs.Order.{Numbered, household, households, rank}
use Rattle.round_trip.specs.Positions.{nodes_by_position, position_of}
use Rattle.round_trip.specs.OrderLaws.{NodesAreFound}
use Rattle.round_trip.proofs.Listed.{filter_all, map_each}
use Rattle.round_trip.proofs.Entries.{keys}
use Rattle.round_trip.proofs.Ordered.{order, order_has, order_stands, StandsAt0}
use Rattle.round_trip.proofs.Nodes.{lines_of, node_tree, nodes_are, pos, positions_are}
use Rattle.round_trip.proofs.Owning.{node_fine}
use Rattle.round_trip.proofs.Regrown.{
  candidates_clear,
  cleared,
  filed,
  in_file,
  kept_clear,
  nodes_again,
  roots_clear,
}
use Rattle.record_shapes.proofs.Each.{each_front, each_more, each_mapped, each_parts, has}
use Rattle.list_laws.proofs.Booleans.{or_right, true_not_false}
use Rattle.list_laws.proofs.Numbers.{same_self}
use Rattle.import_definitions.proofs.Lined.{bare}

-- ---- names tell numbers apart
behind_letter : (o : Option Record) (n : ℕ) → drop 2 (name_with (letter_at o) n) ≡ decimal n ++ codes "@"
behind_letter None n = refl
behind_letter (Some (kind.Place x)) n = refl
behind_letter (Some (kind.Repo x)) n = refl
behind_letter (Some (kind.Source x)) n = refl
behind_letter (Some (kind.Person x)) n = refl
behind_letter (Some (kind.Family x)) n = refl
behind_letter (Some (kind.Entry x)) n = refl
behind_letter (Some (kind.Other x)) n = refl
behind_letter (Some (kind.Event x)) n = refl
behind_letter (Some (kind.Citation x)) n = refl

module _ (m : Records) where
  names_apart : (n k : ℕ) → n < 2 ^ 64 → k < 2 ^ 64 → name_of m n ≡ name_of m k → n ≡ k
  names_apart n k a b e =
      let same : decimal n ++ codes "@" ≡ decimal k ++ codes "@" = sym (behind_letter (get m n) n) ∙ ap (drop 2) e
      ∙ behind_letter (get m k) k in
      decimal_injective n k a b (append_cancel_right (decimal n) (decimal k) (codes "@") same)

  pub names_tell : (n k : ℕ) → n < 2 ^ 64 → k < 2 ^ 64 → bytes_eq (name_of m n) (name_of m k) ≡ (k == n)
  names_tell n k a b = by (k == n) refl (bytes_eq (name_of m n) (name_of m k)) refl
    where
      by : (c : Bool) → (k == n) ≡ c → (d : Bool) → bytes_eq (name_of m n) (name_of m k) ≡ d → d ≡ c
      by true e true g = refl
      by false e false g = refl
      by true e false g = absurd
          (true_not_false (sym (bytes_same (name_of m n) (name_of m k) (ap (name_of m) (sym (eqb-true k n e)))) ∙ g))
      by false e true g = absurd
          (true_not_false (sym (ap (λ i. i == n) (sym (names_apart n k a b (bytes_are (name_of m n) (name_of m k) g)))
          ∙ same_self n) ∙ e))

called_named : (names : ℕ → List ℕ) (name own : List ℕ) (t : Tree Line)
    → is_called name (filed (named names own t)) ≡ bytes_eq name own
called_named names name own (node l f) = refl

-- a tag that is none of five is that of another kind
other_tag : (tag : List ℕ) (a b c d e : Bool) → bytes_eq tag (codes "_LOC") ≡ a → bytes_eq tag (codes "REPO") ≡ b
    → bytes_eq tag (codes "SOUR") ≡ c
    → bytes_eq tag (codes "INDI") ≡ d → bytes_eq tag (codes "FAM") ≡ e
    → (a || (b || (c || (d || (e || false))))) ≡ false → is_other (kind_named tag) ≡ true
other_tag tag false false false false false p q r s t h = rw (p, q, r, s, t)
other_tag tag true b c d e p q r s t h = absurd cc
other_tag tag false true c d e p q r s t h = absurd cc
other_tag tag false false true d e p q r s t h = absurd cc
other_tag tag false false false true e p q r s t h = absurd cc
other_tag tag false false false false true p q r s t h = absurd cc

module _ (c : Content) (is : IsSound c) where
  abbrev m : Records
  m = c.records

  abbrev pub N : Numbered → FileNode
  N e = filed (node_of m (household (entries m) e))

  abbrev pub ns : List FileNode
  ns = map N (order m)

  abbrev S : Link → Type 0
  S = sound.Stands m

  small : (n : ℕ) (r : Record) → get m n ≡ Some r → n < 2 ^ 64
  small n r g =
      let number : IsNumber c.next n = is.rules.numbered n r g in
      let low : n < c.next = number.1 in
      let bound : c.next ≤ 4294967296 = is.bounded in
      omega arith

  -- a record that is wanted at level 0
  pub there : (n : ℕ) → S (n, at_level_0) → (r : Record) × (get m n ≡ Some r) × (nat_lt 0 (rank r) ≡ true)
  there n h = by (get m n) refl h
    where
      by : (o : Option Record) → get m n ≡ o → option_map (is_wanted at_level_0) o ≡ Some true
          → (r : Record) × (get m n ≡ Some r) × (nat_lt 0 (rank r) ≡ true)
      by None g e = absurd cc
      by (Some (kind.Event x)) g e = absurd cc
      by (Some (kind.Citation x)) g e = absurd cc
      by (Some (kind.Place x)) g e = (kind.Place x, g, refl)
      by (Some (kind.Repo x)) g e = (kind.Repo x, g, refl)
      by (Some (kind.Source x)) g e = (kind.Source x, g, refl)
      by (Some (kind.Person x)) g e = (kind.Person x, g, refl)
      by (Some (kind.Family x)) g e = (kind.Family x, g, refl)
      by (Some (kind.Entry x)) g e = (kind.Entry x, g, refl)
      by (Some (kind.Other x)) g e = (kind.Other x, g, refl)

  pub wanted_has : (n : ℕ) → S (n, at_level_0) → has n (keys (order m)) ≡ true
  wanted_has n h = let t = there n h in order_has m n t.0 t.1 t.2

  abbrev Small : Numbered → Type 0
  Small e = e.0 < 2 ^ 64

  order_small : EachOf Small (order m)
  order_small = each_more (StandsAt0 m) Small (λ (e : Numbered) (h : StandsAt0 m e). small e.0 e.1 h.0) (order m)
      (order_stands m)

  called_is : (n : ℕ) (e : Numbered) → n < 2 ^ 64 → Small e → is_called (name_of m n) (N e) ≡ (e.0 == n)
  called_is n e a b = called_named (name_of m) (name_of m n) (name_of m e.0) (lines_of m e) ∙ names_tell m n e.0 a b

  -- ---- the position of a name
  position_is : (n k : ℕ) (xs : List Numbered) → n < 2 ^ 64 → EachOf Small xs → has n (keys xs) ≡ true
      → position_from (is_called (name_of m n)) k (map N xs) ≡ Some (k + position_of n (keys xs))
  position_is n k [] a b h = absurd cc
  position_is n k (e ∷ xs) a b h =
      ap (λ d. cond d (Some k) (position_from (is_called (name_of m n)) (k + 1) (map N xs))) (called_is n e a b.0)
      ∙ elim (e.0 == n) as (λ d. (d || has n (keys xs)) ≡ true
      → cond d (Some k) (position_from (is_called (name_of m n)) (k + 1) (map N xs))
      ≡ Some (k + cond d 0 (position_of n (keys xs) + 1))) [
        | true ↦ λ g. let z : k ≡ k + 0 = omega arith in ap (λ i. let o : Option ℕ = Some i in o) z
        | false ↦ λ g. position_is n (k + 1) xs a b.1 g
            ∙ (let z : (k + 1) + position_of n (keys xs) ≡ k + (position_of n (keys xs) + 1) = omega arith in
            ap (λ i. let o : Option ℕ = Some i in o) z)
      ] h

  pub place_is : (n : ℕ) → S (n, at_level_0) → place_in ns (name_of m n) ≡ Some (pos m n)
  place_is n h = let t = there n h in
      position_is n 0 (order m) (small n t.0 t.1) order_small (wanted_has n h)
      ∙ (let z : 0 + position_of n (keys (order m)) ≡ position_of n (keys (order m)) = omega arith in
      ap (λ i. let o : Option ℕ = Some i in o) (z ∙ sym (positions_are m n)))

  -- ---- lines
  by_value : (tag : List ℕ) (v : Value) → EachOf S (value_links v) → (a b : Forest Lined) (x y : Forest Line)
      → relabel_all bare a ≡ x → relabel_all bare b ≡ y
      → relabel_all bare (put (in_file (mark_of (name_of m) None (record { tag = tag; value = v })))
      (resolve (place_in ns) (named_value (name_of m) v)) a b)
      ≡ more (node (record { tag = tag; value = value_with (pos m) v }) x) y
  by_value tag (value.Text t) h a b x y e g = λ i. more (node (record { tag = tag; value = value.Text t }) (e i)) (g i)
  by_value tag (value.Ref n) h a b x y e g =
      ap (λ o. relabel_all bare
      (put (in_file (mark_of (name_of m) None (record { tag = tag; value = value.Ref n }))) (option_map value.Ref o)
      a b)) (place_is n h.0)
      ∙ (λ i. more (node (record { tag = tag; value = value.Ref (pos m n) }) (e i)) (g i))

  abbrev written : Forest Line → Forest Lined
  written f = resolved (place_in ns) (relabel_all in_file (relabel_all (mark_of (name_of m) None) f))

  lines_back : (f : Forest Line) → EachOf S (forest_links f)
      → relabel_all bare (written f) ≡ relabel_all (line_with (pos m)) f
  lines_back none h = refl
  lines_back (more (node l f) ts) h =
      let both : EachOf S (line_links (node l f)) × EachOf S (forest_links ts) =
      each_parts S (line_links (node l f)) (forest_links ts) h in
      let inner : EachOf S (value_links l.value) × EachOf S (forest_links f) =
      each_parts S (value_links l.value) (forest_links f) both.0 in
      by_value l.tag l.value inner.0 (written f) (written ts) (relabel_all (line_with (pos m)) f)
      (relabel_all (line_with (pos m)) ts) (lines_back f inner.1) (lines_back ts both.1)

  -- ---- one node
  abbrev root_value_of : List ℕ → Line → Value
  root_value_of own l = root_value (place_in ns) (in_file (mark_of (name_of m) (Some own) l))

  root_named : (own : List ℕ) (t : Tree Line) → root_value_of own (label t) ≡ value_with (pos m) (label t).value
      → EachOf S (forest_links (children t))
      → unlined (lined_root (place_in ns) (filed (named (name_of m) own t))) ≡ relabel (line_with (pos m)) t
  root_named own (node l f) v h = λ i. node (record { tag = l.tag; value = v i }) (lines_back f h i)

  pub other_kind : (n : ℕ) (x : model.Other) → get m n ≡ Some (kind.Other x) → is_other (kind_named x.tag) ≡ true
  other_kind n x g = other_tag x.tag (bytes_eq x.tag (codes "_LOC")) (bytes_eq x.tag (codes "REPO"))
      (bytes_eq x.tag (codes "SOUR")) (bytes_eq x.tag (codes "INDI")) (bytes_eq x.tag (codes "FAM"))
      refl refl refl refl refl (is.rules.shapes n (kind.Other x) g).own

  other_value : (tag own : List ℕ) (v : Value) → is_other (kind_named tag) ≡ true → EachOf S (value_links v)
      → root_value_of own (record { tag = tag; value = v }) ≡ value_with (pos m) v
  other_value tag own (value.Text t) k z = rw k
  other_value tag own (value.Ref n) k z = rw (k, place_is n z.0)

  value_links_of : (n : ℕ) (x : model.Other) → get m n ≡ Some (kind.Other x) → EachOf S (value_links x.value)
  value_links_of n x g = each_front S (value_links x.value) (carried_links x.carried) (is.named n (kind.Other x) g)

  value_back : (e : Numbered) → StandsAt0 m e → root_value_of (name_of m e.0) (label (lines_of m e))
      ≡ value_with (pos m) (label (lines_of m e)).value
  value_back (k, kind.Other x) st = other_value x.tag (name_of m k) x.value (other_kind k x st.0)
      (value_links_of k x st.0)
  value_back (k, kind.Event x) st = absurd (true_not_false (sym st.1))
  value_back (k, kind.Citation x) st = absurd (true_not_false (sym st.1))
  value_back (k, kind.Place x) st = refl
  value_back (k, kind.Repo x) st = refl
  value_back (k, kind.Source x) st = refl
  value_back (k, kind.Person x) st = refl
  value_back (k, kind.Family x) st = refl
  value_back (k, kind.Entry x) st = refl

  roots_back : roots ns ≡ map (node_tree m) (order m)
  unfolding roots
  roots_back = map-map unlined (lined_root (place_in ns)) ns
      ∙ map-map (λ t. unlined (lined_root (place_in ns) t)) N (order m)
      ∙ map_each (λ e. unlined (lined_root (place_in ns) (N e))) (node_tree m) (order m)
      (each_more (StandsAt0 m) (λ e. unlined (lined_root (place_in ns) (N e)) ≡ node_tree m e)
      (λ e h. root_named (name_of m e.0) (lines_of m e) (value_back e h) (node_fine c is e h)) (order m)
      (order_stands m))

  -- ---- none is left out
  abbrev Leads : ℕ → Numbered → Type 0
  Leads k e = leads ns k (N e) ≡ true

  any_named : (k n : ℕ) (xs : List Numbered) → has n (keys xs) ≡ true → EachOf (Leads k) xs
      → list_any (λ t. is_called (name_of m n) t && leads ns k t) (map N xs) ≡ true
  any_named k n [] h l = absurd cc
  any_named k n (e ∷ xs) h l =
      elim (eqb e.0 n) as (λ b. eqb e.0 n ≡ b → (b || has n (keys xs)) ≡ true
      → list_any (λ t. is_called (name_of m n) t && leads ns k t) (map N (e ∷ xs)) ≡ true) [
        | true ↦ λ i g. λ z.
            ((called_named (name_of m) (name_of m n) (name_of m e.0) (lines_of m e)
            ∙ bytes_same (name_of m n) (name_of m e.0) (ap (name_of m) (sym (eqb-true e.0 n i)))) z && l.0 z)
            || list_any (λ t. is_called (name_of m n) t && leads ns k t) (map N xs)
        | false ↦ λ i g. or_right (is_called (name_of m n) (N e) && leads ns k (N e))
            (list_any (λ t. is_called (name_of m n) t && leads ns k t) (map N xs)) (any_named k n xs g l.1)
      ] refl h

  other_leads : (k : ℕ) (other : Bool) (v : Value) → EachOf S (value_links v) → EachOf (Leads k) (order m)
      → names_one (leads ns k) ns (cond other (pointer_in (named_value (name_of m) v)) None) ≡ true
  other_leads k false v h l = refl
  other_leads k true (value.Text t) h l = refl
  other_leads k true (value.Ref n) h l = any_named k n (order m) (wanted_has n h.0) l

  leads_step : (k : ℕ) → EachOf (Leads k) (order m) → (e : Numbered) → StandsAt0 m e → leads ns (suc k) (N e) ≡ true
  leads_step k l (n, kind.Other x) st = other_leads k (is_other (kind_named x.tag)) x.value (value_links_of n x st.0) l
  leads_step k l (n, kind.Event x) st = absurd (true_not_false (sym st.1))
  leads_step k l (n, kind.Citation x) st = absurd (true_not_false (sym st.1))
  leads_step k l (n, kind.Place x) st = refl
  leads_step k l (n, kind.Repo x) st = refl
  leads_step k l (n, kind.Source x) st = refl
  leads_step k l (n, kind.Person x) st = refl
  leads_step k l (n, kind.Family x) st = refl
  leads_step k l (n, kind.Entry x) st = refl

  pub all_lead : (k : ℕ) → EachOf (Leads k) (order m)
  all_lead zero = each_more (StandsAt0 m) (Leads zero) (λ e h. refl) (order m) (order_stands m)
  all_lead (suc k) = each_more (StandsAt0 m) (Leads (suc k)) (λ e h. leads_step k (all_lead k) e h) (order m)
      (order_stands m)

  pub each_kept : EachOf (λ t. is_kept ns t ≡ true) ns
  unfolding is_kept
  each_kept = each_mapped (λ t. leads ns (length ns) t ≡ true) N (order m) (all_lead (length ns))

  all_kept : kept ns ≡ ns
  all_kept = filter_all (is_kept ns) ns each_kept

  -- ---- none is the society
  no_society : (e : Numbered) → StandsAt0 m e → not (is_society (N e)) ≡ true
  no_society (n, kind.Other x) st =
      ap not (ap (λ b. bytes_eq x.tag (codes "SUBM") && b)
      (ap (λ o. bytes_eq (codes "@SOCIETY@") (name_with (letter_at o) n)) st.0)
      ∙ and_false (bytes_eq x.tag (codes "SUBM")))
    where
      and_false : (b : Bool) → (b && false) ≡ false
      and_false true = refl
      and_false false = refl
  no_society (n, kind.Event x) st = absurd (true_not_false (sym st.1))
  no_society (n, kind.Citation x) st = absurd (true_not_false (sym st.1))
  no_society (n, kind.Place x) st = refl
  no_society (n, kind.Repo x) st = refl
  no_society (n, kind.Source x) st = refl
  no_society (n, kind.Person x) st = refl
  no_society (n, kind.Family x) st = refl
  no_society (n, kind.Entry x) st = refl

  pub candidates_are : (society : List ℕ) (f : List Item) → IsSame f (exported m society)
      → map cleared (candidates f) ≡ ns
  unfolding exported
  candidates_are society f e =
      candidates_clear f
      ∙ ap (λ ts. filter (λ t. not (is_society t)) (behind_first ts))
      (nodes_again f (header society ++ map (node_of m) (households m)) e)
      ∙ ap (filter (λ t. not (is_society t))) (map-map filed (node_of m) (households m)
      ∙ map-map (λ t. filed (node_of m t)) (household (entries m)) (order m))
      ∙ filter_all (λ t. not (is_society t)) ns (each_mapped (λ t. not (is_society t) ≡ true) N (order m)
      (each_more (StandsAt0 m) (λ e. not (is_society (N e)) ≡ true) (λ e h. no_society e h) (order m) (order_stands m)))

  -- what is kept of a file with the forest of the export, but for the numbers of lines
  pub kept_are : (society : List ℕ) (f : List Item) → IsSame f (exported m society)
      → map cleared (kept (candidates f)) ≡ ns
  kept_are society f e = sym (kept_clear (candidates f)) ∙ ap kept (candidates_are society f e) ∙ all_kept

  pub roots_are : (society : List ℕ) (f : List Item) → IsSame f (exported m society)
      → roots (kept (candidates f)) ≡ nodes_by_position m
  roots_are society f e = sym (roots_clear (kept (candidates f))) ∙ ap roots (kept_are society f e) ∙ roots_back
      ∙ sym (nodes_are m)

pub nodes_found : NodesAreFound
nodes_found c society f is e = roots_are c is society f e
