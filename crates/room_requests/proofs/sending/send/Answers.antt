use Rattle.std.proofs.Common.{◌≡◌, ◌-◌, ◌∙◌, arith, take, drop, length, length-drop, List, ℕ}
use Rattle.std.proofs.Math.Seq.{take-add, take-length}
use Rattle.std.proofs.KnownBytes.{Appends-trans}
use Rattle.room_requests.proofs.sending.send.Goals as goal

-- the slice from a place on
from_place : (s : List ℕ) (i : ℕ) → take (length s - i) (drop i s) ≡ drop i s
from_place s i = rw (← length-drop i s) (take-length (drop i s))

pub pieces-preserved : goal.pieces-preserved
pieces-preserved g c = record {
  taken = rw (take-add, ← from_place c.args.bytes.now c.pieces.at)
      (Appends-trans _ _ _ _ _ c.pieces.invariant.taken c.in-Ok.ensures.bytes);
  in_range = omega (arith, c.in-Ok.ensures.bound, length-drop c.pieces.at c.args.bytes.now);
  counted = c.in-Ok.ensures.ok ∙ c.pieces.invariant.counted;
}
