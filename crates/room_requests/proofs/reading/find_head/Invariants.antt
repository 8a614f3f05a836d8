use Rattle.std.proofs.Common.{◌-◌, ◌≤◌, take}
use Rattle.std.specs.Io.KnownBytes.{Consumes}
use Rattle.room_requests.specs.Reading.{IsUndecided}
use Rattle.room_requests.proofs.reading.find_head.Given as goal

abbrev pub invariant-bytes : goal.invariant-bytes
invariant-bytes g l = record {
  in_range : l.filled ≤ 8192;
  taken : Consumes (g.R.Read.remaining l.fn.reader) (g.R.Read.remaining l.reader) (take l.filled l.buffer);
  undecided : IsUndecided (take l.filled l.buffer);
  before : IsUndecided (take (l.filled - 1) l.buffer);
}

abbrev pub decreases-bytes : goal.decreases-bytes
decreases-bytes g l = 8192 - l.filled
