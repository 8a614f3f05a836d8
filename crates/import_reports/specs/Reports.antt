-- The report of an import, before it is done, and where there is none. Rules of our own.
use Rattle.std.specs.Prelude.{◌≡◌, ◌⊎◌, ◌++◌, ℕ, Bool, false, true, is_some, List, Option, None, Some, Err}
use Rattle.std.specs.FinMap as map
use Rattle.std.specs.List.{flat_map}
use Rattle.archive_input.specs.Telling.{line_text}
use Rattle.archive_state.specs.Content.{Content, nothing}
use Rattle.gedcom_tree.specs.Forest.{Item}
use Rattle.import_definitions.specs.Made.{made}
use Rattle.import_definitions.specs.Report.{report}
use Rattle.import_definitions.specs.Roots.{candidates, kept}
use Rattle.imports.specs.RootNumbers.{root_numbers}
use Rattle.receipts.specs.declared.report.ReportLine.{ReportLine}
use Rattle.record_text.specs.declared.refusal.Refusal.{Refusal}
use Rattle.import_reports.specs.Heads.{head_text}
use Rattle.import_reports.specs.Records.{records_from}

-- the lines of the header; the records of the file, by these numbers of their positions; and these lines, as `import`
-- prints them
abbrev pub text_with : List ℕ → List ReportLine → List Item → List ℕ
text_with numbers lines f = head_text f ++ (records_from numbers 0 (kept (candidates f)) ++ flat_map line_text lines)

-- the report of the import of a file into an archive that holds this
abbrev pub report_text : Content → List Item → List ℕ
report_text c f = text_with (root_numbers c f) (report f) f

-- the archive does not take the file, or an empty one does not
abbrev pub IsUntaken : Content → List Item → Type 0
IsUntaken c f = (e : Refusal) × ((made c f ≡ Err e) ⊎ (made nothing f ≡ Err e))

-- the report with these numbers; or there is none, since an empty archive does not take the file
abbrev pub IsReport : List ℕ → List Item → Option (List ℕ) → Type 0
IsReport numbers f (Some text) = text ≡ text_with numbers (report f) f
IsReport numbers f None = (e : Refusal) × (made nothing f ≡ Err e)

-- the report of an import under a token that was not used, or there is none
abbrev pub IsTrial : Content → List Item → Option (List ℕ) → Type 0
IsTrial c f (Some text) = text ≡ report_text c f
IsTrial c f None = IsUntaken c f

-- the token has an answer
abbrev pub is_answered : Content → List ℕ → Bool
is_answered c token = is_some (map.get c.receipts token)

-- the report of an import under a token, or why there is none
abbrev pub IsForeseen : Content → List ℕ → List Item → Option (List ℕ) → Type 0
IsForeseen c token f (Some text) = (is_answered c token ≡ false) × (text ≡ report_text c f)
IsForeseen c token f None = (is_answered c token ≡ true) ⊎ IsUntaken c f
