use Rattle.std.proofs.Common.{◌≡◌, ◌<◌, ◌-◌, ℕ, length}
use Rattle.import_definitions.specs.Steps.{at as step_in, after}
use Rattle.import_definitions.proofs.steps.ends_of.Given as goal

abbrev pub invariant-loop-reach : goal.invariant-loop-reach
invariant-loop-reach l = record {
  some : 0 < l.reach;
  each : length l.found.items ≡ length l.fn.steps.items;
  steps : (k : ℕ) → step_in l.found.items k ≡ after l.fn.steps.items l.reach k;
}

abbrev pub decreases-loop-reach : goal.decreases-loop-reach
decreases-loop-reach l = length l.found.items - l.reach
