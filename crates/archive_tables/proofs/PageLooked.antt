-- What looks for places have come to that were refused.
use Rattle.std.proofs.Common.{◌≡◌, Bool, true, false, Err, inl, inr, refl}
use Rattle.archive_state.specs.Looks.{is_failure, is_stop}
use Rattle.record_text.specs.declared.refusal.RefusalKind.{RefusalKind}
use Rattle.record_text.specs.declared.refusal.RefusalKind.TheVariants.{OutOfMemory}
use Rattle.archive_tables.specs.Looking.{AreLooked, Looks}

module _ (kind told : RefusalKind) (right : Looks)
    (stops : is_stop kind ≡ true → is_failure kind ≡ false → told ≡ OutOfMemory)
    (same : is_stop kind ≡ false → told ≡ kind) (sure : is_failure kind ≡ false)
    (agrees : is_stop kind ≡ false → right ≡ Err kind) where
  by_stop : (stop : Bool) → is_stop kind ≡ stop → AreLooked (Err told) right
  by_stop true e = inl (inl (stops e sure))
  by_stop false e = rw (same e) (inr (agrees e))

  pub refused_by : AreLooked (Err told) right
  refused_by = by_stop (is_stop kind) refl
