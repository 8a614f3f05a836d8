use Rattle.std.proofs.Common.{arith}
use Rattle.character_sets.proofs.Counting.{partial_past, stray_past, whole_past}
use Rattle.character_sets.proofs.counts.past_next.Goals as goal

pub returns-in-Whole-clause-strays : goal.returns-in-Whole-clause-strays
returns-in-Whole-clause-strays c = omega (
  arith,
  whole_past c.args.units.now c.in-Whole.field-0 c.in-Whole.count
      c.requires c.in-Whole.ensures.front c.in-Whole.ensures.within,
)

pub returns-in-Partial-clause-strays : goal.returns-in-Partial-clause-strays
returns-in-Partial-clause-strays c = omega (arith, partial_past c.args.units.now c.requires c.in-Partial.ensures.front)

pub returns-in-Stray-clause-strays : goal.returns-in-Stray-clause-strays
returns-in-Stray-clause-strays c = omega (arith, stray_past c.args.units.now c.requires c.in-Stray.ensures.front)
