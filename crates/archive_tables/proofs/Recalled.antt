-- What was read of the rows of values of before, and then of the archive.
use Rattle.std.proofs.Common.{◌≡◌, ◌⊎◌, ℕ, List, Ok, Err, ap, inl, inr, refl, sym, subst, ◌∙◌}
use Rattle.std.specs.Prelude.{Option, Result}
use Rattle.std.specs.Io.KnownBytes.{Keeps}
use Rattle.sqlite.specs.State.{HasCleanDisk, State}
use Rattle.histories.specs.History.{history}
use Rattle.past_values.specs.Recalling.{CanBeRecalled, IsRecalled}
use Rattle.past_values.specs.declared.reading.Recalled.{Recalled as Found}
use Rattle.record_text.specs.declared.refusal.RefusalKind.{RefusalKind}
use Rattle.record_text.specs.declared.refusal.RefusalKind.TheVariants.{BadStored}
use Rattle.store.specs.Recalling.{Recalls}
use Rattle.store_tables.specs.Looking.{IsFailure}
use Rattle.archive_tables.specs.Ends.{EndsWriting, OnRead, OnRows}
use Rattle.archive_tables.specs.Remembering.{EndsHistory}

either_failure : {P : Type 0} (kind told : RefusalKind) → (IsFailure kind ⊎ (kind ≡ BadStored) → told ≡ kind)
    → IsFailure kind ⊎ ((kind ≡ BadStored) × P) → IsFailure told ⊎ ((told ≡ BadStored) × P)
either_failure kind told same (inl failed) = inl (subst IsFailure (sym (same (inl failed))) failed)
either_failure kind told same (inr bad) = inr (same (inr bad.0) ∙ bad.0, bad.1)

module _ (n : ℕ) (before after : Option (List ℕ)) where
  abbrev Recalling : State → Result Found RefusalKind → State → Type 0
  Recalling old r mid = HasCleanDisk mid
      → Recalls (λ rows found. IsRecalled n rows found.answers found.values.items) (CanBeRecalled n) old r mid

  pub none_recalled : (old mid : State) (kind told : RefusalKind) → Recalling old (Err kind) mid
      → (IsFailure kind ⊎ (kind ≡ BadStored) → told ≡ kind) → Keeps before after
      → OnRows old mid (EndsHistory (Err told) before after n)
  none_recalled old mid kind told recalls same kept clean =
      let r = recalls clean in (
        r.stays.clean,
        λ rows c was seen. (
          inl (either_failure kind told same (r.refused rows was), kept),
          r.stays.crash rows was,
        ),
      )

  pub some_recalled : (old mid new : State) (found : Found) (result : Result (Unit {0}) RefusalKind)
      → Recalling old (Ok found) mid
      → OnRead mid new (λ c. EndsWriting result before after
      (history found.answers c.records n found.values.items))
      → OnRows old new (EndsHistory result before after n)
  some_recalled old mid new found result recalls written clean =
      let w = written clean in
      let r = recalls w.0 in (
        r.stays.clean,
        λ rows c was seen.
            let is = r.read rows was in
            let did = w.1 rows c (r.stays.same refl rows was) seen in (
              inr (
                history found.answers c.records n found.values.items,
                (found.values.items, is.0, ap (λ k. history k c.records n found.values.items) is.1),
                did.0,
              ),
              did.1,
            ),
      )
