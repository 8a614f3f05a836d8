-- A text that no record has.
use Rattle.std.proofs.Common.{◌≡◌, ◌⊎◌, ℕ, List, inl, inr, sym, subst}
use Rattle.std.specs.Prelude.{Result, Ok, Err, IfErr}
use Rattle.record_text.specs.declared.refusal.RefusalKind.{RefusalKind}
use Rattle.record_text.specs.declared.refusal.RefusalKind.TheVariants.{OutOfMemory, BadStored}
use Rattle.packed_rows.specs.Packed.{HaveText, StoredLines}
use Rattle.packed_rows.proofs.OneText.{same_whole}
use Rattle.record_kinds.specs.declared.record.Record.{Record}
use Rattle.records.specs.Shallow.{IsShallow}
use Rattle.records.specs.Stored.{stored}
use Rattle.earlier_values.specs.Earlier.{IsPastOf}

-- the lines of the text are those of no record
pub no_record : (text : List ℕ) (lines : StoredLines) → HaveText text lines
    → ((r : Record) → IsShallow r → ¬ (lines ≡ stored r)) → (r : Record) → ¬ (IsPastOf r text)
no_record text lines have none r is = none r is.1 (same_whole text lines (stored r) have is.0)

-- so why the lines are refused is why the text is
pub refused_too : (res : Result Record RefusalKind) (text : List ℕ) (lines items : StoredLines) → lines ≡ items
    → HaveText text items
    → IfErr res (λ k. (k ≡ OutOfMemory) ⊎ ((k ≡ BadStored) × ((r : Record) → IsShallow r → ¬ (lines ≡ stored r))))
    → IfErr res (λ k. (k ≡ OutOfMemory) ⊎ ((k ≡ BadStored) × ((r : Record) → ¬ (IsPastOf r text))))
refused_too (Ok a) text lines items same have h = tt
refused_too (Err k) text lines items same have (inl h) = inl h
refused_too (Err k) text lines items same have (inr h) =
    inr (h.0, no_record text lines (subst (HaveText text) (sym same) have) h.1)
