-- How the writing of the report of an import ends. Rules of our own.
use Rattle.std.specs.Prelude.{◌≡◌, ◌⊎◌, ℕ, Bool, false, true, List, Option, None, Some, Result, Ok, Err}
use Rattle.std.specs.Io.KnownBytes.{Appends, Keeps}
use Rattle.archive_state.specs.Content.{Content}
use Rattle.devices.specs.Devices.{AppendsBeginning}
use Rattle.gedcom_tree.specs.Forest.{Item}
use Rattle.record_text.specs.declared.refusal.RefusalKind.{RefusalKind}
use Rattle.record_text.specs.declared.refusal.RefusalKind.TheVariants.{OutOfMemory, WriteFailed}
use Rattle.store_tables.specs.Looking.{IsFailure}
use Rattle.import_reports.specs.Reports.{IsUntaken, is_answered, report_text}

-- whether a report was written, or why it was not
abbrev pub Written : Type 0
Written = Result Bool RefusalKind

-- the writer, or memory for it, has failed after a prefix of a text
abbrev pub IsCut : RefusalKind → Option (List ℕ) → Option (List ℕ) → List ℕ → Type 0
IsCut kind before after text = ((kind ≡ WriteFailed) ⊎ (kind ≡ OutOfMemory)) × AppendsBeginning before after text

-- how the writing of a text ends, where there is one
abbrev pub EndsText : Written → Option (List ℕ) → Option (List ℕ) → Option (List ℕ) → Type 0
EndsText (Ok true) before after (Some text) = Appends before after text
EndsText (Ok false) before after None = Keeps before after
EndsText (Err kind) before after (Some text) = IsCut kind before after text
EndsText (Ok true) before after None = ⊥
EndsText (Ok false) before after (Some text) = ⊥
EndsText (Err kind) before after None = ⊥

-- under a token that was not used the writer has got the report of the file, whole; or the token has an answer or the
-- archive does not take the file, and nothing is written; or memory was refused or the database failed, and nothing is
-- written; or it is cut
abbrev pub EndsReport : Written → Option (List ℕ) → Option (List ℕ) → List ℕ → List Item → Content → Type 0
EndsReport (Ok true) before after token f c = (is_answered c token ≡ false) × Appends before after (report_text c f)
EndsReport (Ok false) before after token f c =
    ((is_answered c token ≡ true) ⊎ IsUntaken c f) × Keeps before after
EndsReport (Err kind) before after token f c = (IsFailure kind × Keeps before after)
    ⊎ ((is_answered c token ≡ false) × IsCut kind before after (report_text c f))
