use Rattle.std.proofs.Common.{drop}
use Rattle.past_values.specs.Recalling.{IsValueOf}
use Rattle.past_values.proofs.Made.{SoFar}
use Rattle.past_values.proofs.reading.values_of.Given as goal

abbrev pub invariant-rows : goal.invariant-rows
invariant-rows l = SoFar IsValueOf l.rows (drop l.row-index l.rows) l.values.items
