-- What is reported of an import, a stage more.
use Rattle.std.proofs.Common.{◌≡◌, ◌∙◌, ◌+◌, ◌-◌, ◌*◌, ◌^◌, ℕ, ap, arith, min, zero, suc}
use Rattle.staging.specs.Counts.{RowCount, TellsStages, a_stage_more, after_stages}

-- after one stage more
pub one_stage_more : (all n : ℕ) → a_stage_more (after_stages all n) ≡ after_stages all (suc n)
one_stage_more all n =
    let most = min all (2 ^ 64 - 1) in
    let written : min (min (256 * n) most + 256) most ≡ min (256 * suc n) most = omega (arith) in
    ap (λ (k : ℕ). record { written = k; all = most }) written

-- what is reported to one is reported to another that sees it, where what holds at the end has held before
module _ {P Q : Type 0} (Tells : P → RowCount → P → Type 0) (Says : Q → RowCount → Q → Type 0) (seen : P → Q)
    (Still : P → Type 0) (each : (a b : P) (rows : RowCount) → Tells a rows b → Still b
    → Still a × Says (seen a) rows (seen b)) (all : ℕ) where
  pub stages_seen : (n : ℕ) (a b : P) → TellsStages Tells all n a b → Still b
      → Still a × TellsStages Says all n (seen a) (seen b)
  stages_seen zero a b told still = each a b (after_stages all 0) told still
  stages_seen (suc n) a b (mid, told, last) still =
      let one = each mid b (after_stages all (suc n)) last still in
      let before = stages_seen n a mid told one.0 in
      (before.0, (seen mid, before.1, one.1))
