-- The nodes of an export with positions for numbers, and what stands at each position.
use Rattle.std.specs.Prelude.{ℕ, ◌≡◌, List, ◌++◌, map}
use Rattle.std.specs.FinMap.{entries}
use Rattle.std.proofs.Common.{ap}
use Rattle.std.proofs.lemmas.Simd.{map-map}
use Rattle.stored_lines.specs.Tree.{Tree, forest_of, list_of, label, relabel, relabel_all}
use Rattle.stored_lines.specs.Line.{Line}
use Rattle.record_kinds.specs.declared.record.Record.{Record}
use Rattle.record_shapes.specs.Shapes.{shape}
use Rattle.archive_state.specs.Content.{Records}
use Rattle.archive_state.specs.Merging.{line_with}
use Rattle.gedcom_export.specs.Around.{around}
use Rattle.gedcom_export.specs.Forest.{without_numbers}
use Rattle.gedcom_export.specs.Order.{Numbered, citations_of, events_of, household}
use Rattle.round_trip.specs.Positions.{lines_by_position, node_position, nodes_by_position, position_of}
use Rattle.round_trip.proofs.Entries.{keys}
use Rattle.round_trip.proofs.Ordered.{order}

module _ (m : Records) where
  abbrev pub pos : ℕ → ℕ
  pos = node_position m

  -- what a record owns, and the record with it
  abbrev pub owns : ℕ → List (Tree Record)
  owns k = list_of (relabel_all (λ (e : Numbered). e.1)
      (forest_of (events_of (entries m) k ++ citations_of (entries m) k)))

  abbrev pub house : Numbered → Tree Record
  house e = without_numbers (household (entries m) e)

  -- its lines, with the numbers of the archive and with positions
  abbrev pub lines_of : Numbered → Tree Line
  lines_of e = shape (around m) e.0 (house e)

  abbrev pub node_tree : Numbered → Tree Line
  node_tree e = relabel (line_with pos) (lines_of e)

  pub nodes_are : nodes_by_position m ≡ map node_tree (order m)
  nodes_are = map-map (lines_by_position m) (household (entries m)) (order m)

  pub positions_are : (n : ℕ) → pos n ≡ position_of n (keys (order m))
  positions_are n = ap (position_of n) (map-map (λ (t : Tree Numbered). (label t).0) (household (entries m)) (order m))
