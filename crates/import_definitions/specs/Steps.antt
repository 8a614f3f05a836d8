-- Where chains of pointers at level 0 lead, over positions of nodes.
use Rattle.std.specs.Prelude.{ℕ, zero, suc, Bool, true, false, List, slice_index_or, Option, Some, None}
use Rattle.stored_lines.specs.Tree.{label}
use Rattle.import_definitions.specs.Nodes.{FileNode}
use Rattle.import_definitions.specs.Roots.{name_in}
use Rattle.import_definitions.specs.declared.steps.Step.{Step}
use Rattle.import_definitions.specs.declared.steps.Step.TheVariants as step

-- the step at a position; after the last there is none
abbrev pub at : List Step → ℕ → Step
at ss k = slice_index_or ss k step.Breaks

abbrev pub then_by : (ℕ → Step) → Step → Step
then_by f step.Ends = step.Ends
then_by f step.Breaks = step.Breaks
then_by f (step.Leads k) = f k

-- so many steps from a position, or fewer where they end or break off before
abbrev pub after : List Step → ℕ → ℕ → Step
after ss zero k = step.Leads k
after ss (suc n) k = then_by (after ss n) (at ss k)

abbrev pub breaks : Step → Bool
breaks step.Breaks = true
breaks s = false

-- the step from a node to the one that its value names
abbrev pub step_to : Option ℕ → Step
step_to None = step.Breaks
step_to (Some k) = step.Leads k

abbrev pub step_by : (List ℕ → Option ℕ) → Option (List ℕ) → Step
step_by place None = step.Ends
step_by place (Some name) = step_to (place name)

abbrev pub step_of : (List ℕ → Option ℕ) → FileNode → Step
step_of place t = step_by place (name_in (label t))
