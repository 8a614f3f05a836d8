use Rattle.std.proofs.Common.{◌≡◌, ◌≤◌, drop}
use Rattle.character_sets.specs.Cuts.{marks_at_end}
use Rattle.character_sets.proofs.cuts.marks_at_end.Given as goal

abbrev pub invariant-loop-unit : goal.invariant-loop-unit
invariant-loop-unit l = record {
  counted : marks_at_end l.count (drop l.unit-index l.value) ≡ marks_at_end 0 l.value;
  few : l.count ≤ l.unit-index;
}
