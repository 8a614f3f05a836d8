-- What becomes of one row.
use Rattle.std.proofs.Common.{◌≡◌, ◌⊎◌, ℕ, Bool, true, false, Some, Result, Ok, Err, inl, inr, refl, ap, sym, subst}
use Rattle.std.specs.Prelude.{if◌then◌else◌}
use Rattle.csv.specs.Records.{AllText}
use Rattle.record_text.specs.declared.refusal.Refusal.{Refusal}
use Rattle.record_text.specs.declared.refusal.RefusalKind.{RefusalKind}
use Rattle.record_text.specs.declared.refusal.RefusalKind.TheVariants.{OutOfMemory}
use Rattle.commands.specs.Rows.{Decided, ReadsEntry, is_want}
use Rattle.commands.specs.declared.entry_row.EntryRow.{EntryRow}
use Rattle.request_csv.specs.Batches.{ReadsRow, placeless}
use Rattle.request_csv.specs.Input.{Row, first_fields}
use Rattle.request_csv.proofs.Wide.{reads_entry}

module _ (row : Row) where
  -- the first fields are texts, as all are
  pub of_texts : (fields : Row) (r : Result EntryRow RefusalKind) → AllText row → fields ≡ first_fields row
      → Decided r (ReadsEntry fields) → Decided r (ReadsRow row)
  of_texts fields (Ok entry) all same h = inl (
    all,
    reads_entry row (Ok entry) (subst (λ (fs : Row). ReadsEntry fs (Ok entry)) same h),
  )
  of_texts fields (Err kind) all same h = λ w. inl (
    all,
    reads_entry row (Err kind) (subst (λ (fs : Row). ReadsEntry fs (Err kind)) same (h w)),
  )

  module _ (kind : RefusalKind) (number : ℕ) (e : Refusal) where
    told_by : (b : Bool) → (b ≡ false → ReadsRow row (Err kind))
        → e ≡ (if b then placeless OutOfMemory else record { kind = kind; at = Some number })
        → (e ≡ placeless OutOfMemory) ⊎ (ReadsRow row (Err e.kind) × (e.at ≡ Some number))
    told_by true reads is = inl is
    told_by false reads is = inr (
      subst (λ (x : Refusal). ReadsRow row (Err x.kind)) (sym is) (reads refl),
      ap (λ (x : Refusal). x.at) is,
    )

    -- the refusal of a row, with its place
    pub told : (is_want kind ≡ false → ReadsRow row (Err kind))
        → e ≡ (if is_want kind then placeless OutOfMemory else record { kind = kind; at = Some number })
        → (e ≡ placeless OutOfMemory) ⊎ (ReadsRow row (Err e.kind) × (e.at ≡ Some number))
    told reads is = told_by (is_want kind) reads is
