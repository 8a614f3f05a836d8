use Rattle.std.proofs.Common.{◌≡◌, take, count_by}
use Rattle.room_requests.specs.Reading.{is_host_at}
use Rattle.room_requests.proofs.reading.count_hosts.Given as goal

abbrev pub invariant-loop-line : goal.invariant-loop-line
invariant-loop-line l = l.hosts ≡ count_by (is_host_at l.front) (take l.line-index l.lines)
