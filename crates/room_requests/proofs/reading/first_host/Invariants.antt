use Rattle.std.proofs.Common.{◌≡◌, drop, map}
use Rattle.httparse.specs.Spans.{header_bytes}
use Rattle.room_requests.specs.Heads.{first_host}
use Rattle.room_requests.proofs.reading.first_host.Given as goal

abbrev pub invariant-lines : goal.invariant-lines
invariant-lines l = first_host (map (header_bytes l.front) (drop l.line-index l.lines))
    ≡ first_host (map (header_bytes l.front) l.lines)
