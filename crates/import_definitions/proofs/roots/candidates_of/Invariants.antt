use Rattle.std.proofs.Common.{◌≡◌, ◌++◌, not, drop}
use Rattle.std.specs.List.{filter}
use Rattle.import_definitions.specs.Nodes.{trees_at, trees_of}
use Rattle.import_definitions.specs.Roots.{is_society}
use Rattle.import_definitions.proofs.roots.candidates_of.Given as goal

abbrev pub invariant-loop-node : goal.invariant-loop-node
invariant-loop-node l = trees_at l.found.items ++ filter (λ t. not (is_society t))
    (trees_of (drop l.node-index l.behind))
    ≡ filter (λ t. not (is_society t)) (trees_of l.behind)
