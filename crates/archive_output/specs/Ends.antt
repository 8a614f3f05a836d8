-- How the writing of what is between two days ends, which are counted from 1970-01-01. Rules of our own.
use Rattle.std.specs.Prelude.{◌≡◌, ◌⊎◌, ◌<ℤ◌, ℕ, ℤ, Bool, List, Option}
use Rattle.std.specs.Io.KnownBytes.{Appends, Keeps}
use Rattle.archive_state.specs.Content.{Content}
use Rattle.date_spans.specs.Between.{AreAll, IsBetween}
use Rattle.devices.specs.Devices.{AppendsBeginning}
use Rattle.record_text.specs.declared.refusal.RefusalKind.{RefusalKind}
use Rattle.record_text.specs.declared.refusal.RefusalKind.TheVariants.{DaysReversed, OutOfMemory, WriteFailed}
use Rattle.store_tables.specs.Looking.{IsFailure}
use Rattle.archive_output.specs.Lines.{found_text}

-- P of the text of all that is between the days, ascending, of what an archive holds
abbrev pub OnFound : Bool → ℤ → ℤ → (List ℕ → Type 0) → Content → Type 0
OnFound words first last P c = (found : List ℕ) × AreAll (IsBetween c.records first last) found
    × P (found_text words c.records found)

-- all of it was written
abbrev pub AreWritten : Bool → ℤ → ℤ → Option (List ℕ) → Option (List ℕ) → Content → Type 0
AreWritten words first last before after c = OnFound words first last (Appends before after) c

-- memory was refused or the database failed, and nothing is written; or memory was refused or the writer failed after
-- a beginning of it
abbrev pub AreCut : RefusalKind → Bool → ℤ → ℤ → Option (List ℕ) → Option (List ℕ) → Content → Type 0
AreCut kind words first last before after c = (IsFailure kind × Keeps before after)
    ⊎ (((kind ≡ WriteFailed) ⊎ (kind ≡ OutOfMemory)) × OnFound words first last (AppendsBeginning before after) c)

-- the first day is after the last, and nothing is written
abbrev pub AreReversed : RefusalKind → ℤ → ℤ → Option (List ℕ) → Option (List ℕ) → Type 0
AreReversed kind first last before after = (kind ≡ DaysReversed) × (last <ℤ first) × Keeps before after
