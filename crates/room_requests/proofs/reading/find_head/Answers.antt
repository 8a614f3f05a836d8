use Rattle.std.proofs.Common.{arith, ◌+◌, refl}
use Rattle.std.proofs.KnownBytes.{Consumes-nil}
use Rattle.room_requests.proofs.Filled.{taken_filled}
use Rattle.room_requests.proofs.Undecided.{empty_is_undecided, undecided_before, undecided_front}
use Rattle.room_requests.proofs.reading.find_head.Goals as goal

pub bytes-init : goal.bytes-init
bytes-init g c = record {
  in_range = omega arith;
  taken = Consumes-nil _;
  undecided = empty_is_undecided;
  before = empty_is_undecided;
}

pub returns-then-n-eq0-clause-undecided : goal.returns-then-n-eq0-clause-undecided
returns-then-n-eq0-clause-undecided g c =
    undecided_before c.bytes.filled _ c.bytes.filled _ c.bytes.buffer c.read.new.buf (omega arith) refl (omega arith)
    (omega (arith, c.bytes.auto.buffer, c.requires.room, c.bytes.invariant.in_range)) c.bytes.invariant.before

pub returns-in-Some-clause-front : goal.returns-in-Some-clause-front
returns-in-Some-clause-front g c =
    taken_filled _ _ _ c.bytes.filled _ c.in-Ok.n c.bytes.buffer c.read.new.buf
    (omega (arith, c.bytes.auto.buffer, c.requires.room, c.bytes.invariant.in_range))
    (omega (arith, c.in-Ok.ensures.bound)) c.bytes.invariant.taken c.in-Ok.ensures.bytes.0

pub returns-in-Some-clause-undecided : goal.returns-in-Some-clause-undecided
returns-in-Some-clause-undecided g c =
    undecided_before (c.bytes.filled + c.in-Ok.n) c.bytes.filled c.bytes.filled _ c.bytes.buffer c.read.new.buf
    (omega (arith, c.in-Ok.ensures.bound))
    (omega (arith, c.in-Ok.ensures.bound, c.read.auto.buf, c.bytes.auto.buffer, c.if-n-eq0.false))
    (omega arith) (omega (arith, c.bytes.auto.buffer, c.requires.room, c.bytes.invariant.in_range))
    c.bytes.invariant.undecided

pub bytes-preserved : goal.bytes-preserved
bytes-preserved g c = record {
  in_range = omega (arith, c.in-Ok.ensures.bound, c.read.auto.buf, c.bytes.auto.buffer);
  taken = taken_filled _ _ _ c.bytes.filled _ c.in-Ok.n c.bytes.buffer c.read.new.buf
      (omega (arith, c.bytes.auto.buffer, c.requires.room, c.bytes.invariant.in_range))
      (omega (arith, c.in-Ok.ensures.bound)) c.bytes.invariant.taken c.in-Ok.ensures.bytes.0;
  undecided = c.in_default.ensures.judged;
  before = undecided_front _ c.bytes.filled c.bytes.filled _ c.bytes.buffer c.read.new.buf
      (omega (arith, c.in-Ok.ensures.bound, c.read.auto.buf, c.bytes.auto.buffer, c.if-n-eq0.false)) (omega arith)
      (omega (arith, c.bytes.auto.buffer, c.requires.room, c.bytes.invariant.in_range)) c.bytes.invariant.undecided;
}
