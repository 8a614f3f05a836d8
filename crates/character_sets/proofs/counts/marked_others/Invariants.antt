use Rattle.std.proofs.Common.{◌≡◌, ◌+◌, ◌≤◌, drop, false}
use Rattle.character_sets.specs.Counts.{marked_others}
use Rattle.character_sets.proofs.counts.marked_others.Given as goal

abbrev pub invariant-loop-unit : goal.invariant-loop-unit
invariant-loop-unit l = record {
  counted : l.count + marked_others l.is_waiting (drop l.unit-index l.units) ≡ marked_others false l.units;
  few : l.count ≤ l.unit-index;
}
