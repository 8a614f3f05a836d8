-- What is printed of a task, whole or in part. Rules of our own.
use Rattle.std.specs.Prelude.{◌≡◌, ◌⊎◌, ℕ, ℤ, List, Option, None, Some, Ok, Err}
use Rattle.std.specs.Io.KnownBytes.{Appends}
use Rattle.sqlite.specs.State.{State}
use Rattle.table_looks.specs.Judging.{Audit}
use Rattle.archive_output.specs.Reading.{OnOpen}
use Rattle.archive_state.specs.Content.{Content}
use Rattle.devices.specs.Devices.{AppendsBeginning, Rose}
use Rattle.record_text.specs.declared.refusal.RefusalKind.{RefusalKind}
use Rattle.record_text.specs.declared.refusal.RefusalKind.TheVariants.{OutOfMemory, WriteFailed}
use Rattle.archive_output.specs.Showing.{IsShown, OfSound}
use Rattle.store_tables.specs.Looking.{IsFailure}
use Rattle.tasks.specs.Status.{Outcome, placeless_text}
use Rattle.tasks.specs.Texts.{sound_text}

-- no memory was found for the text, or the writer failed, and of the text a prefix was written; the writer is blamed
-- only where it failed in this call, by its count
pub record IsPrintedPart (text : List ℕ) (kind : RefusalKind) (before after : Option (List ℕ))
    (WriterFailed : Type 0) : Type 0 where
  pub why : (kind ≡ WriteFailed) ⊎ (kind ≡ OutOfMemory)
  pub blamed : kind ≡ WriteFailed → WriterFailed
  pub written : AppendsBeginning before after text

-- the line of an audit was printed, or a prefix of it; or the audit found a flaw in the archive, and nothing is
-- printed. `got` is what a writer has got, `failed` how often it failed
abbrev pub PrintsAudit : {W : Type 0} → (W → Option (List ℕ)) → (W → ℕ) → W → W → Audit → Outcome → Type 0
PrintsAudit got failed old new (Ok n) (Ok done) = Appends (got old) (got new) (sound_text n)
PrintsAudit got failed old new (Ok n) (Err t) = (kind : RefusalKind) × (t ≡ placeless_text kind)
    × IsPrintedPart (sound_text n) kind (got old) (got new) (Rose (failed old) (failed new))
PrintsAudit got failed old new (Err e) (Ok done) = ⊥
PrintsAudit got failed old new (Err e) (Err t) = (t ≡ placeless_text e.0) × (new ≡ old)

-- what may be shown of an archive on a day, for a reading room, only of one that is sound; or why there is nothing
abbrev pub Shelves : State → State → ℤ → Outcome → Option Content → Type 0
Shelves old new today (Ok done) (Some shown) = OnOpen old new (λ _ c. IsShown c today shown)
    × OfSound old new (λ c. IsShown c today shown)
Shelves old new today (Err t) None = OnOpen old new (λ _ _. IsFailure t.refusal.kind)
Shelves old new today (Ok done) None = ⊥
Shelves old new today (Err t) (Some shown) = ⊥
