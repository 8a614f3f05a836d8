-- How the check of a page on an archive ends: rules of our own.
use Rattle.std.specs.Prelude.{◌≡◌, ◌⊎◌, Bool, List, ℕ, Option, Some, None, Result, Ok, Err, string_bytes}
use Rattle.std.specs.Io.KnownBytes.{Appends, Keeps}
use Rattle.archive_tables.specs.declared.checking.PageFound.{PageFound}
use Rattle.archive_tables.specs.declared.checking.PageFound.TheVariants.{Checked, Unread}
use Rattle.archive_state.specs.Content.{Content}
use Rattle.devices.specs.Devices.{AppendsBeginning}
use Rattle.page_checks.specs.Page.{page_check}
use Rattle.page_checks.specs.Unread.{lines}
use Rattle.page_checks.specs.declared.page.PageCheck.{PageCheck}
use Rattle.page_entries.specs.declared.dates.DateOrder.{DateOrder}
use Rattle.record_text.specs.declared.refusal.RefusalKind.{RefusalKind}
use Rattle.record_text.specs.declared.refusal.RefusalKind.TheVariants.{NoSuch, OutOfMemory, WriteFailed}
use Rattle.row_references.specs.Words.{number_in}
use Rattle.row_references.specs.declared.words.NumberWord.{NumberWord}
use Rattle.store_tables.specs.Looking.{IsFailure}
use Rattle.table_pages.specs.Sheets.{Sheet, sheet_of}
use Rattle.table_pages.specs.declared.fault.PageFault.{PageFault}

-- what a check of a page answers: what is found on it, or why it is no sheet; or why it was refused
abbrev pub Right : Type 0
Right = Result (Result PageCheck PageFault) RefusalKind

-- of a page whose source has no number: why it is no sheet, or else 50
abbrev pub unsourced : Result Sheet PageFault → Right
unsourced (Ok sheet) = Err NoSuch
unsourced (Err fault) = Ok (Err fault)

-- of a page whose source has this number, where it has one
abbrev pub check_with : Content → Option ℕ → Option DateOrder → Bool → List ℕ → Right
check_with c (Some n) order makes bytes = page_check c n order makes bytes
check_with c None order makes bytes = unsourced (sheet_of bytes)

-- of a page whose source has the number that a word gives
abbrev pub check_by : Content → NumberWord → Option DateOrder → Bool → List ℕ → Right
check_by c word order makes bytes = check_with c (number_in c word) order makes bytes

-- the writer has got the lines of what is found, and whether something is wrong is answered; or the lines of why it is
-- no sheet are, and nothing is written
abbrev pub IsFound : PageFound → Option (List ℕ) → Option (List ℕ) → Right → Type 0
IsFound (Checked is_wrong) before after (Ok (Ok check)) = (is_wrong ≡ check.is_wrong) × Appends before after check.text
IsFound (Unread text) before after (Ok (Err fault)) = (string_bytes text ≡ lines fault) × Keeps before after
IsFound _ before after _ = ⊥

-- the writer, or memory for it, has failed after a beginning of the lines; or the check was refused, and nothing is
-- written
abbrev pub IsCutShort : RefusalKind → Option (List ℕ) → Option (List ℕ) → Right → Type 0
IsCutShort kind before after (Ok (Ok check)) = ((kind ≡ WriteFailed) ⊎ (kind ≡ OutOfMemory))
    × AppendsBeginning before after check.text
IsCutShort kind before after (Ok (Err fault)) = ⊥
IsCutShort kind before after (Err why) = (kind ≡ why) × Keeps before after

-- how a check ended, where this is what it answers; or memory was refused or the database failed, and nothing is
-- written
abbrev pub EndsChecking : Result PageFound RefusalKind → Option (List ℕ) → Option (List ℕ) → Right → Type 0
EndsChecking (Ok found) before after right = IsFound found before after right
EndsChecking (Err kind) before after right = (IsFailure kind × Keeps before after) ⊎ IsCutShort kind before after right
