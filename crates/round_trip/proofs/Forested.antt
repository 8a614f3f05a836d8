-- The export of a sound archive is a forest.
use Rattle.std.specs.Prelude.{
  ℕ,
  ◌≡◌,
  ◌≤◌,
  ◌==◌,
  ◌&&◌,
  ◌||◌,
  not,
  true,
  false,
  List,
  [],
  ◌∷◌,
  ◌++◌,
  length,
  map,
  codes,
  nat_le,
  Some,
  bytes_eq,
  refl,
}
use Rattle.std.specs.List.{list_all, list_any}
use Rattle.std.specs.FinMap.{entries}
use Rattle.std.proofs.Common.{ap, sym, ◌∙◌, subst, arith, append-nil}
use Rattle.std.proofs.lemmas.Simd.{map-map}
use Rattle.stored_lines.specs.Tree.{Tree, Forest, node, more, children, flat, flat_all, forest_of, label}
use Rattle.stored_lines.specs.Line.{Line}
use Rattle.stored_lines.specs.Levels.{forest_levels}
use Rattle.record_kinds.specs.declared.record.Record.TheVariants as kind
use Rattle.archive_state.specs.Links.{Link, carried_links, forest_links, value_links}
use Rattle.record_text.specs.Text.{IsText}
use Rattle.record_shapes.specs.Lists.{EachOf, IsOnce}
use Rattle.archive_state.specs.Content.{Content, Records}
use Rattle.archive_state.specs.Sound.{IsSound}
use Rattle.archive_state.specs.Sound as sound
use Rattle.gedcom_line.specs.Spelling.{IsXref}
use Rattle.gedcom_line.specs.Split.{char_count}
use Rattle.gedcom_line.specs.Value.{Pointer, Text}
use Rattle.gedcom_tree.specs.Forest.{Item}
use Rattle.gedcom_tree.specs.Text.{
  EachNode,
  IsForest,
  IsNodeValue,
  are_distinct,
  behind_first,
  is_called,
  keeps_header,
  rises,
}
use Rattle.node_writing.specs.Header.{file_head, form_lines, header, leaf, submitter}
use Rattle.node_writing.specs.Nodes.{Mark, items_at, mark_of, named}
use Rattle.gedcom_export.specs.Forest.{exported, node_of}
use Rattle.gedcom_export.specs.Names.{name_of}
use Rattle.gedcom_export.specs.Order.{Numbered, household}
use Rattle.round_trip.proofs.Entries.{keys}
use Rattle.round_trip.proofs.Found.{names_tell}
use Rattle.round_trip.proofs.Nodes.{lines_of}
use Rattle.round_trip.proofs.Ordered.{order, order_once, order_stands, StandsAt0}
use Rattle.round_trip.proofs.Owning as owning
use Rattle.round_trip.proofs.Fitting.{good_tag}
use Rattle.round_trip.proofs.Fine.{IsFine, node_fine}
use Rattle.round_trip.proofs.Noded.{
  called_behind,
  distinct_behind,
  each_node_append,
  lines_noded,
  low_number,
  name_xref,
  no_xrefs,
  node_is,
  society_apart,
  society_xref,
  text_value,
  unequal_bytes,
  unnamed,
  value_is,
}
use Rattle.round_trip.proofs.Plain.{is_plain, plain_text}
use Rattle.round_trip.proofs.Walked.{forest_rises, items, items_append, out_of_header}
use Rattle.record_shapes.proofs.Each.{each_front, has}
use Rattle.list_laws.proofs.Booleans.{neither, true_not_false}

module _ (c : Content) (is : IsSound c) where
  abbrev m : Records
  m = c.records

  abbrev S : Link → Type 0
  S = sound.Stands m

  abbrev N : Numbered → Tree Mark
  N e = node_of m (household (entries m) e)

  abbrev below : List Numbered → Forest Mark
  below xs = forest_of (map N xs)

  low : (e : Numbered) → StandsAt0 m e → e.0 ≤ 4294967296
  low e st = low_number c is e.0 e.1 st.0

  -- ---- one node
  no_trailer : (e : Numbered) → StandsAt0 m e → bytes_eq (label (lines_of m e)).tag (codes "TRLR") ≡ false
  no_trailer (k, kind.Other x) st = unequal_bytes x.tag (codes "TRLR") (is.rules.trailers k (kind.Other x) st.0)
  no_trailer (k, kind.Event x) st = absurd (true_not_false (sym st.1))
  no_trailer (k, kind.Citation x) st = absurd (true_not_false (sym st.1))
  no_trailer (k, kind.Place x) st = refl
  no_trailer (k, kind.Repo x) st = refl
  no_trailer (k, kind.Source x) st = refl
  no_trailer (k, kind.Person x) st = refl
  no_trailer (k, kind.Family x) st = refl
  no_trailer (k, kind.Entry x) st = refl

  -- the number that the line of level 0 has for its value
  root_links : (e : Numbered) → StandsAt0 m e → EachOf S (value_links (label (lines_of m e)).value)
  root_links (k, kind.Other x) st = each_front S (value_links x.value) (carried_links x.carried)
      (is.named k (kind.Other x) st.0)
  root_links (k, kind.Event x) st = absurd (true_not_false (sym st.1))
  root_links (k, kind.Citation x) st = absurd (true_not_false (sym st.1))
  root_links (k, kind.Place x) st = tt
  root_links (k, kind.Repo x) st = tt
  root_links (k, kind.Source x) st = tt
  root_links (k, kind.Person x) st = tt
  root_links (k, kind.Family x) st = tt
  root_links (k, kind.Entry x) st = tt

  one_noded : (own : List ℕ) (t : Tree Line) → IsFine c is t → IsXref (Some own)
      → bytes_eq (label t).tag (codes "TRLR") ≡ false → EachOf S (value_links (label t).value)
      → EachOf S (forest_links (children t))
      → EachNode (items (flat 0 (named (name_of m) own t)))
  one_noded own (node l f) h x t v links =
      let room : forest_levels f ≤ 98 = h.low in (
        node_is 0 (mark_of (name_of m) (Some own) l) (omega arith) h.root.0 t x (value_is c is l.value h.root.1 v),
        lines_noded c is f 1 (omega arith) h.below links (omega arith),
      )

  all_noded : (xs : List Numbered) → EachOf (StandsAt0 m) xs → EachNode (items (flat_all 0 (below xs)))
  all_noded [] h = tt
  all_noded (e ∷ xs) h = subst EachNode (sym (items_append (flat 0 (N e)) (flat_all 0 (below xs))))
      (each_node_append (items (flat 0 (N e))) (items (flat_all 0 (below xs)))
      (one_noded (name_of m e.0) (lines_of m e) (node_fine c is e h.0) (name_xref m e.0 (low e h.0)) (no_trailer e h.0)
      (root_links e h.0) (owning.node_fine c is e h.0)) (all_noded xs h.1))

  -- ---- names
  tell : (k : ℕ) (e : Numbered) → k ≤ 4294967296 → e.0 ≤ 4294967296
      → bytes_eq (name_of m k) (name_of m e.0) ≡ (e.0 == k)
  tell k e a b = names_tell m k e.0 (omega arith) (omega arith)

  -- a name among those of nodes
  called_node : (x own : List ℕ) (t : Tree Line) (rest : List Item)
      → list_any (is_called x) (items (flat 0 (named (name_of m) own t)) ++ rest)
      ≡ (bytes_eq x own || list_any (is_called x) rest)
  called_node x own (node l f) rest = ap (λ b. bytes_eq x own || b)
      (called_behind x (flat_all 1 (unnamed c is f)) rest (no_xrefs c is f 1))

  called_nodes : (x : List ℕ) (xs : List Numbered) → list_any (is_called x) (items (flat_all 0 (below xs)))
      ≡ list_any (λ e. bytes_eq x (name_of m e.0)) xs
  called_nodes x [] = refl
  called_nodes x (e ∷ xs) = ap (list_any (is_called x)) (items_append (flat 0 (N e)) (flat_all 0 (below xs)))
      ∙ called_node x (name_of m e.0) (lines_of m e) (items (flat_all 0 (below xs)))
      ∙ ap (λ b. bytes_eq x (name_of m e.0) || b) (called_nodes x xs)

  not_named : (k : ℕ) (xs : List Numbered) → k ≤ 4294967296 → EachOf (StandsAt0 m) xs → has k (keys xs) ≡ false
      → list_any (λ e. bytes_eq (name_of m k) (name_of m e.0)) xs ≡ false
  not_named k [] l h n = refl
  not_named k (e ∷ xs) l h n =
      let both : ((e.0 == k) ≡ false) × (has k (keys xs) ≡ false) = neither (e.0 == k) (has k (keys xs)) n in
      λ i. (tell k e l (low e h.0) ∙ both.0) i || not_named k xs l h.1 both.1 i

  distinct_node : (own : List ℕ) (t : Tree Line) (rest : List Item) → list_any (is_called own) rest ≡ false
      → are_distinct rest ≡ true → are_distinct (items (flat 0 (named (name_of m) own t)) ++ rest) ≡ true
  distinct_node own (node l f) rest n d =
      λ i. not ((called_behind own (flat_all 1 (unnamed c is f)) rest (no_xrefs c is f 1) ∙ n) i)
      && (distinct_behind (flat_all 1 (unnamed c is f)) rest (no_xrefs c is f 1) ∙ d) i

  all_distinct : (xs : List Numbered) → EachOf (StandsAt0 m) xs → IsOnce (keys xs)
      → are_distinct (items (flat_all 0 (below xs))) ≡ true
  all_distinct [] h o = refl
  all_distinct (e ∷ xs) h o = ap are_distinct (items_append (flat 0 (N e)) (flat_all 0 (below xs)))
      ∙ distinct_node (name_of m e.0) (lines_of m e) (items (flat_all 0 (below xs)))
      (called_nodes (name_of m e.0) xs ∙ not_named e.0 xs (low e h.0) h.1 o.0) (all_distinct xs h.1 o.1)

  no_society : (xs : List Numbered) → EachOf (StandsAt0 m) xs
      → list_any (λ e. bytes_eq (codes "@SOCIETY@") (name_of m e.0)) xs ≡ false
  no_society [] h = refl
  no_society (e ∷ xs) h = λ i. society_apart m e.0 (low e h.0) i || no_society xs h.1 i

  -- ---- the whole
  module _ (society : List ℕ) (text : IsText society) where
    abbrev all : Forest Mark
    all = below (order m)

    abbrev name_line : Forest Mark
    name_line = forest_of (leaf (codes "NAME") (Text society) ∷ [])

    abbrev head_lines : Forest Mark
    head_lines = forest_of
        (leaf (codes "SOUR") (Text (codes "PARISH")) ∷ leaf (codes "SUBM") (Pointer (codes "@SOCIETY@")) ∷ form_lines)

    abbrev forest : List Item
    forest = items (flat_all 0 (more file_head (more (submitter society) all)))

    word : (t : List ℕ) → list_all is_plain t ≡ true → nat_le (length t) 1048576 ≡ true → IsNodeValue (Text t)
    word t p s = text_value t (plain_text t p s)

    nodes : EachNode forest
    nodes = (
      node_is 0 _ (omega arith) (good_tag (codes "HEAD") refl) refl tt (word [] refl refl),
      (
        node_is 1 _ (omega arith) (good_tag (codes "SOUR") refl) refl tt (word (codes "PARISH") refl refl),
        (
          node_is 1 _ (omega arith) (good_tag (codes "SUBM") refl) refl tt society_xref,
          (
            node_is 1 _ (omega arith) (good_tag (codes "GEDC") refl) refl tt (word [] refl refl),
            (
              node_is 2 _ (omega arith) (good_tag (codes "VERS") refl) refl tt (word (codes "5.5.1") refl refl),
              (
                node_is 2 _ (omega arith) (good_tag (codes "FORM") refl) refl tt
                    (word (codes "LINEAGE-LINKED") refl refl),
                (
                  node_is 1 _ (omega arith) (good_tag (codes "CHAR") refl) refl tt (word (codes "UTF-8") refl refl),
                  (
                    node_is 0 _ (omega arith) (good_tag (codes "SUBM") refl) refl society_xref (word [] refl refl),
                    (
                      node_is 1 _ (omega arith) (good_tag (codes "NAME") refl) refl tt (text_value society text),
                      all_noded (order m) (order_stands m),
                    ),
                  ),
                ),
              ),
            ),
          ),
        ),
      ),
    )

    levels_rise : rises 0 (items (flat_all 1 head_lines ++ flat_all 0 (more (submitter society) all))) ≡ true
    levels_rise =
        ap (rises 0) (items_append (flat_all 1 head_lines) (flat_all 0 (more (submitter society) all)))
        ∙ forest_rises head_lines 1 0 (items (flat_all 0 (more (submitter society) all))) (omega arith)
        (λ n l. ap (rises n) (sym (append-nil (items (flat_all 0 (more (submitter society) all)))))
        ∙ forest_rises (more (submitter society) all) 0 n [] (omega arith) (λ k z. refl))

    names_apart : are_distinct forest ≡ true
    names_apart = λ i. not ((called_nodes (codes "@SOCIETY@") (order m) ∙ no_society (order m) (order_stands m)) i)
        && all_distinct (order m) (order_stands m) (order_once m) i

    header_kept : keeps_header true false (behind_first forest) ≡ true
    unfolding char_count
    header_kept = out_of_header false (items (flat_all 1 name_line ++ flat_all 0 all))

    is_forest : IsForest forest
    is_forest = record { head = refl; nodes = nodes; levels = levels_rise; names = names_apart; header = header_kept }

    pub exported_is_forest : IsForest (exported m society)
    unfolding exported
    exported_is_forest = subst (λ ts. IsForest (items_at 0 (header society ++ ts)))
        (sym (map-map (node_of m) (household (entries m)) (order m))) is_forest

pub export_is_forest : (c : Content) (society : List ℕ) → IsSound c → IsText society
    → IsForest (exported c.records society)
export_is_forest c society is text = exported_is_forest c is society text
