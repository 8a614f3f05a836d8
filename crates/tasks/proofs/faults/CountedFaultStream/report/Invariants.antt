use Rattle.std.proofs.Common.{◌≡◌, ◌≤◌, ◌-◌, length, take}
use Rattle.std.specs.Io.KnownBytes.{Appends}
use Rattle.devices.specs.Counts.{failures_of, inner_of}
use Rattle.tasks.proofs.faults.CountedFaultStream.report.Given as goal

abbrev pub invariant-pieces : goal.invariant-pieces
invariant-pieces g l = record {
  taken : Appends (g.W.Write.contents (inner_of l.fn.self)) (g.W.Write.contents (inner_of l.self)) (take l.at l.text);
  in_range : l.at ≤ length l.text;
  counted : failures_of l.self ≡ failures_of l.fn.self;
}

abbrev pub decreases-pieces : goal.decreases-pieces
decreases-pieces g l = length l.text - l.at
