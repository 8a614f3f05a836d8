-- Why a public export was not written, of two of the same text.
use Rattle.std.proofs.Common.{◌≡◌, ◌⊎◌, ◌∙◌, ◌<◌, true, false, true≢false, ℕ, List, arith, inl, inr, length, refl, sym}
use Rattle.std.specs.Prelude.{Option}
use Rattle.archive_state.specs.Looks.{is_failure, is_stop}
use Rattle.gedcom_export.specs.Ends.{IsReason, IsWhole}
use Rattle.record_text.specs.declared.refusal.RefusalKind.{RefusalKind}
use Rattle.record_text.specs.declared.refusal.RefusalKind.TheVariants.{
  BadStored,
  ExportTooLarge,
  OutOfMemory,
  Storage,
}
use Rattle.archive_output.specs.Writing.{IsCut}
use Rattle.tasks.specs.Hiding.{HasFailed}

-- what stops an export of an archive that was read before is out of memory
stopped : (kind : RefusalKind) → is_stop kind ≡ true → is_failure kind ≡ false → HasFailed kind
stopped OutOfMemory stop fails = inr (inr refl)
stopped BadStored stop fails = absurd (true≢false fails)
stopped Storage stop fails = absurd (true≢false fails)
stopped _ stop fails = absurd (true≢false (sym stop))

-- it was cut short, or the text is too long
why : (size : ℕ) (kind : RefusalKind) → IsReason size kind → is_failure kind ≡ false
    → HasFailed kind ⊎ ((kind ≡ ExportTooLarge) × (67108864 < size))
why size kind (inl stop) fails = inl (stopped kind stop fails)
why size kind (inr (inl write)) fails = inl (inr (inl write))
why size kind (inr (inr large)) fails = inr large

pub whole_and_cut : (text : List ℕ) (x y v w : Option (List ℕ)) (kind : RefusalKind) → IsWhole x y text
    → IsCut kind v w text → HasFailed kind
whole_and_cut text x y v w kind whole cut = elim (why (length text) kind cut.0.reason cut.1) [
  | inl failed ↦ failed
  | inr large ↦ absurd (omega (arith, whole.short, large.1))
]

pub both_cut : (text other : List ℕ) (x y v w : Option (List ℕ)) (kind more : RefusalKind) → IsCut kind x y text
    → IsCut more v w other → (kind ≡ more) ⊎ (HasFailed kind ⊎ HasFailed more)
both_cut text other x y v w kind more first second = elim (why (length text) kind first.0.reason first.1) [
  | inl failed ↦ inr (inl failed)
  | inr large ↦ elim (why (length other) more second.0.reason second.1) [
    | inl failed ↦ inr (inr failed)
    | inr also ↦ inl (large.0 ∙ sym also.0)
  ]
]
