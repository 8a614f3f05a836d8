use Rattle.std.proofs.Common.{
  ◌≡◌,
  ◌-◌,
  ◌∙◌,
  ℕ,
  List,
  arith,
  drop,
  inl,
  inr,
  length,
  length-drop,
  refl,
  subst,
  take,
}
use Rattle.std.proofs.Math.Seq.{take-add, take-length}
use Rattle.std.proofs.KnownBytes.{Appends-kept, Appends-nil, Appends-trans}
use Rattle.devices.specs.Devices.{Rose}
use Rattle.tasks.proofs.faults.CountedFaultStream.report.Goals as goal

-- the slice from a place on
from_place : (s : List ℕ) (i : ℕ) → take (length s - i) (drop i s) ≡ drop i s
from_place s i = rw (← length-drop i s) (take-length (drop i s))

pub pieces-init : goal.pieces-init
pieces-init g c = record {
  taken = Appends-nil (g.W.Write.contents c.args.self.now.inner);
  in_range = omega arith;
  counted = refl;
}

pub pieces-preserved : goal.pieces-preserved
pieces-preserved g c = record {
  taken = rw (take-add, ← from_place c.args.text.now c.pieces.at)
      (Appends-trans _ _ _ _ _ c.pieces.invariant.taken c.in-Ok.ensures.bytes);
  in_range = omega (arith, c.in-Ok.ensures.bound, length-drop c.pieces.at c.args.text.now);
  counted = c.in-Ok.ensures.ok ∙ c.pieces.invariant.counted;
}

pub returns-in-Err : goal.returns-in-Err
returns-in-Err g c = inr (
  (
    c.pieces.at,
    c.pieces.invariant.in_range,
    Appends-kept _ _ _ _ c.pieces.invariant.taken c.in-Err.ensures.bytes,
  ),
  subst (λ (n : ℕ). Rose n c.write.new.self.failures) c.pieces.invariant.counted c.in-Err.ensures.err,
)

pub returns : goal.returns
returns g c =
    let all : c.pieces.at ≡ length c.args.text.now = omega (arith, c.pieces-test.false, c.pieces.invariant.in_range) in
    inl (rw (← take-length c.args.text.now, ← all) c.pieces.invariant.taken)
