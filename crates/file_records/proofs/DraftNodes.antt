-- Nodes of a file in a row, as lines, and read as drafts.
use Rattle.std.proofs.Common.{
  ◌≡◌,
  ℕ,
  ◌+◌,
  ◌<◌,
  ◌≤◌,
  List,
  [],
  ◌∷◌,
  ◌++◌,
  length,
  drop,
  take,
  get_or,
  map,
  refl,
  sym,
  ap,
  ◌∙◌,
  arith,
  append_assoc,
  append-nil,
}
use Rattle.std.specs.Prelude.{Option, Some, option_map}
use Rattle.std.specs.Borrow.{Bor}
use Rattle.std.specs.List.{flat_map, slice_get}
use Rattle.std.specs.declared.string.String.{String}
use Rattle.std.specs.Global.{Global}
use Rattle.std.proofs.Math.ListN.{drop_of_length-le}
use Rattle.std.proofs.lemmas.List.{length-map, length-take-le, map-append, take-map}
use Rattle.std.proofs.lemmas.Option.{slice_get-map, slice_get_read, slice_get_within}
use Rattle.receipts.specs.declared.report.ReportLine.{ReportLine}
use Rattle.stored_lines.specs.Tree.{Tree, Forest, node, children, forest_of, label, relabel_all}
use Rattle.stored_lines.specs.Levels.{forest_levels}
use Rattle.stored_lines.specs.Line.{Line, Lines}
use Rattle.stored_lines.specs.declared.carried.Value.{Value}
use Rattle.record_shapes.specs.Reading.{Draft, draft_of}
use Rattle.node_reading.specs.Trees.{draft_tree}
use Rattle.node_reading.specs.declared.drafts.Draft as code
use Rattle.gedcom_tree.specs.declared.node.Node.{Node}
use Rattle.gedcom_tree.specs.declared.node.Node.TheViews.{out-Node}
use Rattle.import_definitions.specs.Nodes.{FileLine, FileNode, line_said, tree_of, trees_at, trees_of}
use Rattle.import_definitions.specs.Lines.{
  lined_root,
  lined_roots,
  lines_below,
  place_in,
  resolved,
  root_value,
  roots,
  unlined,
}
use Rattle.import_definitions.specs.Reports.{dangling}
use Rattle.import_definitions.proofs.Trees.{tree_out}
use Rattle.import_definitions.specs.Positions.{known, known_before, known_by, paths}
use Rattle.import_definitions.specs.Sides.{draft_at, drafts_from}
use Rattle.file_records.specs.KnownViews.{path_said}
use Rattle.file_records.specs.Drafts.{as_line, as_lines}
use Rattle.import_definitions.proofs.Lined.{bare, resolved_low}
use Rattle.import_definitions.proofs.Firsts.{paths_length}
use Rattle.import_definitions.proofs.Below.{roots_length}
use Rattle.stored_lines.proofs.Listed.{forest_list}

-- ---- the nodes below a node

pub lines_low : (place : List ℕ → Option ℕ) (f : Forest FileLine) (cs : Lines) → cs ≡ lines_below place f
    → forest_levels f ≤ 98 → forest_levels (forest_of cs) < 99
lines_low place f cs c h =
    let same : forest_levels (forest_of cs) ≡ forest_levels (relabel_all bare (resolved place f)) =
    ap forest_levels (ap forest_of c ∙ forest_list (relabel_all bare (resolved place f))) in
    omega (arith, same, h, resolved_low place f)

-- ---- a node as a line
pub line_is : (place : List ℕ → Option ℕ) (n : Node) (ns : List Node) → ns ≡ (out-Node n).children.items
    → (tag : List ℕ) (v : Value) (cs : Lines) → tag ≡ (out-Node n).tag → v ≡ root_value place (label (tree_of n))
    → cs ≡ lines_below place (forest_of (trees_of ns))
    → node (record { tag = tag; value = v }) (forest_of cs) ≡ as_line place (tree_of n)
line_is place n ns e tag v cs t w c =
    let value : v ≡ root_value place (line_said (out-Node n)) = w
    ∙ ap (λ (u : FileNode). root_value place (label u)) (tree_out n) in
    let below : forest_of cs ≡ relabel_all bare (resolved place (forest_of (trees_of (out-Node n).children.items))) =
    ap forest_of (c ∙ ap (λ ms. lines_below place (forest_of (trees_of ms))) e)
    ∙ forest_list (relabel_all bare (resolved place (forest_of (trees_of (out-Node n).children.items)))) in
    (λ i. node (record { tag = t i; value = value i }) (below i)) ∙ sym (ap (as_line place) (tree_out n))

-- ---- the node at a position
pub root_at : (ks : List FileNode) (k : ℕ) (t : FileNode) → slice_get ks k ≡ Some t
    → slice_get (roots ks) k ≡ Some (as_line (place_in ks) t)
unfolding roots
root_at ks k t at = slice_get-map unlined (lined_roots ks) k
    ∙ ap (option_map unlined) (slice_get-map (lined_root (place_in ks)) ks k)
    ∙ ap (λ o. option_map unlined (option_map (lined_root (place_in ks)) o)) at

-- ---- the paths before it

pub within : (ks : List FileNode) (ps : List (Option (String Global))) (k : ℕ) (t : FileNode)
    → map path_said ps ≡ paths (roots ks) → slice_get ks k ≡ Some t → k ≡ length (take k ps)
within ks ps k t e at =
    let inside : k < length ks = slice_get_within ks k t at in
    let all : length ps ≡ length ks = sym (length-map ps path_said) ∙ ap length e ∙ paths_length (roots ks)
    ∙ roots_length ks in
    sym (length-take-le k ps (omega (arith, inside, all)))

pub read_is : (ks : List FileNode) (ps : List (Option (String Global))) (k : ℕ) (d : Tree Draft) (line r : Tree Line)
    → map path_said ps ≡ paths (roots ks) → line ≡ r
    → d ≡ draft_of (known_by (roots ks) (map path_said (take k ps))) (known_by (roots ks) (map path_said ps)) line
    → d ≡ draft_of (known_before (roots ks) k) (known (roots ks)) r
read_is ks ps k d line r e same so =
    let before : map path_said (take k ps) ≡ take k (paths (roots ks)) = sym (take-map path_said k ps)
    ∙ ap (take k) e in
    so ∙ (λ i. draft_of (known_by (roots ks) (before i)) (known_by (roots ks) (e i)) (same i))

-- ---- all nodes

pub here : (ks : List FileNode) (ns : List (Bor Node)) (i k : ℕ) (n : Bor Node) → trees_at ns ≡ ks → i < length ns
    → n ≡ get_or ns i n → k ≡ i → slice_get ks k ≡ Some (tree_of n.now)
here ks ns i k n same h e at =
    ap (slice_get ks) at ∙ ap (λ ts. slice_get ts i) (sym same)
    ∙ slice_get-map (λ (m : Bor Node). tree_of m.now) ns i
    ∙ ap (option_map (λ (m : Bor Node). tree_of m.now)) (slice_get_read ns (length ns) i n refl h e)

module _ (ks : List FileNode) where
  two_maps : (ts : List FileNode) → as_lines (place_in ks) ts ≡ map unlined (map (lined_root (place_in ks)) ts)
  two_maps [] = refl
  two_maps (t ∷ ts) = ap (λ us. as_line (place_in ks) t ∷ us) (two_maps ts)

  pub begun : (ds : List code.Draft) (ts : List FileNode) → ds ≡ [] → ts ≡ ks
      → map draft_tree ds ++ drafts_from (roots ks) 0 (as_lines (place_in ks) ts) ≡ drafts_from (roots ks) 0 (roots ks)
  unfolding roots
  begun ds ts empty e = ap (λ us. map draft_tree us ++ drafts_from (roots ks) 0 (as_lines (place_in ks) ts)) empty
      ∙ ap (λ us. drafts_from (roots ks) 0 (as_lines (place_in ks) us)) e
      ∙ ap (drafts_from (roots ks) 0) (two_maps ks)

  pub draft_step : (t : FileNode) (rest ts : List FileNode) (i j k : ℕ) (ds new : List code.Draft) (d : code.Draft)
      (all : List (Tree Draft)) → ts ≡ t ∷ rest → k ≡ i → j ≡ i + 1 → new ≡ ds ++ d ∷ []
      → draft_tree d ≡ draft_at (roots ks) k (as_line (place_in ks) t)
      → map draft_tree ds ++ drafts_from (roots ks) i (as_lines (place_in ks) ts) ≡ all
      → map draft_tree new ++ drafts_from (roots ks) j (as_lines (place_in ks) rest) ≡ all
  draft_step t rest ts i j k ds new d all e at next one is so =
      let behind = drafts_from (roots ks) (i + 1) (as_lines (place_in ks) rest) in
      (λ m. map draft_tree (one m) ++ drafts_from (roots ks) (next m) (as_lines (place_in ks) rest))
      ∙ ap (λ us. us ++ behind) (map-append draft_tree ds (d ∷ []))
      ∙ append_assoc (map draft_tree ds) (draft_tree d ∷ []) behind
      ∙ ap (λ u. map draft_tree ds ++ u ∷ behind)
      (is ∙ ap (λ n. draft_at (roots ks) n (as_line (place_in ks) t)) at)
      ∙ ap (λ us. map draft_tree ds ++ drafts_from (roots ks) i (as_lines (place_in ks) us)) (sym e) ∙ so

  pub draft_end : (ns : List (Bor Node)) (i : ℕ) (ds : List code.Draft) (all : List (Tree Draft)) → length ns ≤ i
      → map draft_tree ds ++ drafts_from (roots ks) i (as_lines (place_in ks) (trees_at (drop i ns))) ≡ all
      → map draft_tree ds ≡ all
  draft_end ns i ds all h so = sym (append-nil (map draft_tree ds))
      ∙ sym (ap (λ ms. map draft_tree ds ++ drafts_from (roots ks) i (as_lines (place_in ks) (trees_at ms)))
      (drop_of_length-le ns h)) ∙ so

  abbrev pub said_of : List FileNode → List ReportLine
  said_of ts = flat_map (λ (t : FileNode). dangling (place_in ks) (children t)) ts

  pub report_step : (t : FileNode) (rest ts : List FileNode) (said after all : List ReportLine) → ts ≡ t ∷ rest
      → after ≡ said ++ dangling (place_in ks) (children t) → said ++ said_of ts ≡ all → after ++ said_of rest ≡ all
  report_step t rest ts said after all e one so =
      ap (λ us. us ++ said_of rest) one
      ∙ append_assoc said (dangling (place_in ks) (children t)) (said_of rest)
      ∙ ap (λ us. said ++ said_of us) (sym e) ∙ so

  pub report_end : (ns : List (Bor Node)) (i : ℕ) (said all : List ReportLine) → length ns ≤ i
      → said ++ said_of (trees_at (drop i ns)) ≡ all → said ≡ all
  report_end ns i said all h so = sym (append-nil said)
      ∙ sym (ap (λ ms. said ++ said_of (trees_at ms)) (drop_of_length-le ns h)) ∙ so
