use Rattle.std.proofs.Common.{◌≡◌, ℕ, List, take}
use Rattle.import_definitions.specs.Nodes.{trees_at}
use Rattle.import_definitions.specs.Lines.{place_in}
use Rattle.import_definitions.specs.Views.{kept_at}
use Rattle.import_definitions.proofs.roots.places_of.Given as goal

abbrev pub invariant-loop-node : goal.invariant-loop-node
invariant-loop-node l = record {
  count : l.at ≡ l.node-index;
  places : (name : List ℕ) → kept_at l.places name ≡ place_in (trees_at (take l.node-index l.nodes)) name;
}
