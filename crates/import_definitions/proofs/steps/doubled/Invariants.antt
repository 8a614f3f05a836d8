use Rattle.std.proofs.Common.{◌≡◌, map, take}
use Rattle.import_definitions.specs.Steps.{at as step_in, then_by}
use Rattle.import_definitions.proofs.steps.doubled.Given as goal

abbrev pub invariant-loop-step : goal.invariant-loop-step
invariant-loop-step l = l.found.items ≡ map (then_by (step_in l.steps)) (take l.step-index l.steps)
