-- How the writing of what is shown ends. Rules of our own.
use Rattle.std.specs.Prelude.{◌≡◌, ◌⊎◌, ℕ, ℤ, false, List, Option, Result, Ok, Err}
use Rattle.std.specs.Io.KnownBytes.{Appends, Keeps}
use Rattle.archive_state.specs.Content.{Content}
use Rattle.archive_state.specs.Looks.{is_failure}
use Rattle.devices.specs.Devices.{AppendsBeginning}
use Rattle.gedcom_export.specs.Ends.{IsBegun, IsWhole}
use Rattle.record_text.specs.declared.refusal.RefusalKind.{RefusalKind}
use Rattle.record_text.specs.declared.refusal.RefusalKind.TheVariants.{OutOfMemory, WriteFailed}
use Rattle.store_tables.specs.Looking.{IsFailure}
use Rattle.archive_output.specs.Exporting.{export_text}
use Rattle.archive_output.specs.Sheets.{sheet_text}
use Rattle.archive_output.specs.Showing.{OnShown}
use Rattle.archive_output.specs.declared.sheet.Sheet.{Sheet}

-- memory was refused or the database failed before anything was written
abbrev pub IsNotBegun : RefusalKind → Option (List ℕ) → Option (List ℕ) → Type 0
IsNotBegun kind before after = IsFailure kind × Keeps before after

-- ---- sheets
-- there is a text, and the writer has got all of it
abbrev pub GotText : Option (List ℕ) → Option (List ℕ) → Result (List ℕ) RefusalKind → Type 0
GotText before after (Ok text) = Appends before after text
GotText before after (Err e) = ⊥

-- why not: there is none, for that reason, and nothing is written; or the writer, or memory for it, has failed after a
-- beginning
abbrev pub GotNoText : RefusalKind → Option (List ℕ) → Option (List ℕ) → Result (List ℕ) RefusalKind → Type 0
GotNoText kind before after (Ok text) = ((kind ≡ WriteFailed) ⊎ (kind ≡ OutOfMemory))
    × AppendsBeginning before after text
GotNoText kind before after (Err e) = (kind ≡ e) × Keeps before after

-- the sheet of an archive on a day was written; or it was not
abbrev pub IsSheetWritten : Option (List ℕ) → Option (List ℕ) → Sheet → ℤ → Content → Type 0
IsSheetWritten before after sheet today c = OnShown c today (λ s. GotText before after (sheet_text s.records sheet))

abbrev pub IsSheetRefused : RefusalKind → Option (List ℕ) → Option (List ℕ) → Sheet → ℤ → Content → Type 0
IsSheetRefused kind before after sheet today c = IsNotBegun kind before after
    ⊎ OnShown c today (λ s. GotNoText kind before after (sheet_text s.records sheet))

-- ---- public exports
-- a beginning of a text was written. The archive was read before, so it is neither 40 nor 80
abbrev pub IsCut : RefusalKind → Option (List ℕ) → Option (List ℕ) → List ℕ → Type 0
IsCut kind before after bytes = IsBegun before after bytes kind × (is_failure kind ≡ false)

-- what is shown of a society's archive on a day was written as a file; or a beginning was
abbrev pub IsPublished : Option (List ℕ) → Option (List ℕ) → ℤ → List ℕ → Content → Type 0
IsPublished before after today society c = OnShown c today (λ s. IsWhole before after (export_text society s))

abbrev pub IsPartPublished : RefusalKind → Option (List ℕ) → Option (List ℕ) → ℤ → List ℕ → Content → Type 0
IsPartPublished kind before after today society c = IsNotBegun kind before after
    ⊎ OnShown c today (λ s. IsCut kind before after (export_text society s))
