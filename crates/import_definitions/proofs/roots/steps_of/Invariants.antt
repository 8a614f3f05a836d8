use Rattle.std.proofs.Common.{◌≡◌, map, take}
use Rattle.import_definitions.specs.Nodes.{trees_at}
use Rattle.import_definitions.specs.Steps.{step_of as step_told}
use Rattle.import_definitions.specs.Views.{kept_at}
use Rattle.import_definitions.proofs.roots.steps_of.Given as goal

abbrev pub invariant-loop-node : goal.invariant-loop-node
invariant-loop-node l = l.steps.items ≡ map (step_told (kept_at l.places)) (trees_at (take l.node-index l.nodes))
