-- There is a path for each node, and a draft.
use Rattle.std.proofs.Common.{◌≡◌, ℕ, ◌+◌, ◌<◌, ◌^◌, List, [], ◌∷◌, length, map, ap, arith, refl}
use Rattle.std.specs.Prelude.{Option}
use Rattle.std.proofs.lemmas.List.{length-map}
use Rattle.stored_lines.specs.Line.{Lines}
use Rattle.stored_lines.specs.Tree.{Tree}
use Rattle.record_shapes.specs.Reading.{Draft}
use Rattle.import_definitions.specs.Nodes.{FileNode}
use Rattle.import_definitions.specs.Lines.{roots}
use Rattle.import_definitions.specs.Positions.{paths}
use Rattle.import_definitions.specs.Sides.{drafts_from}
use Rattle.import_definitions.proofs.Firsts.{paths_length}
use Rattle.import_definitions.proofs.Below.{roots_length}

drafts_long : (rs : Lines) (k : ℕ) (behind : Lines) → length (drafts_from rs k behind) ≡ length behind
drafts_long rs k [] = refl
drafts_long rs k (r ∷ behind) = omega (arith, drafts_long rs (k + 1) behind)

-- what stands for each path is no more than the nodes
pub paths_few : {P : Type 0} (ks : List FileNode) (said : P → Option (List ℕ)) (ps : List P)
    → map said ps ≡ paths (roots ks) → length ks < 2 ^ 32 → length ps < 2 ^ 32
paths_few ks said ps same few =
    omega (arith, length-map ps said, ap length same, paths_length (roots ks), roots_length ks, few)

pub drafts_few : {D : Type 0} (ks : List FileNode) (said : D → Tree Draft) (ds : List D)
    → map said ds ≡ drafts_from (roots ks) 0 (roots ks) → length ks < 2 ^ 32 → length ds < 2 ^ 32
drafts_few ks said ds same few =
    omega (arith, length-map ds said, ap length same, drafts_long (roots ks) 0 (roots ks), roots_length ks, few)
