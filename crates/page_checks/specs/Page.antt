-- A page, looked over against what an archive has. Nothing of it is entered: no definition here speaks of a second
-- content.
use Rattle.std.specs.Prelude.{ℕ, nat_lt, Bool, List, [], count_by, Option, Result, Ok, Err}
use Rattle.record_text.specs.declared.refusal.RefusalKind.{RefusalKind}
use Rattle.archive_state.specs.Content.{Content}
use Rattle.commands.specs.Rows.{and_then}
use Rattle.command_checks.specs.Checks.{demanded_at}
use Rattle.command_checks.specs.declared.kinds.Demand.TheVariants.{Source}
use Rattle.table_pages.specs.Sheets.{Sheet, sheet_of}
use Rattle.table_pages.specs.declared.fault.PageFault.{PageFault}
use Rattle.page_entries.specs.declared.dates.DateOrder.{DateOrder}
use Rattle.page_answers.specs.Answers.{answers_on}
use Rattle.page_checks.specs.Findings.{is_wrong}
use Rattle.page_answers.specs.NewPlaces.{likes_on}
use Rattle.page_checks.specs.Lines.{text}
use Rattle.page_checks.specs.Rows.{Likes, checked_rows}
use Rattle.page_answers.specs.declared.answers.RowAnswer.{RowAnswer}
use Rattle.page_checks.specs.declared.findings.CheckedRow.{CheckedRow}
use Rattle.page_checks.specs.declared.page.PageCheck.{PageCheck}

-- the lines, and whether a row is wrong
abbrev pub found_in : List CheckedRow → PageCheck
found_in rows = record { text = text rows; is_wrong = nat_lt 0 (count_by is_wrong rows) }

abbrev pub found_with : Option DateOrder → Sheet → List RowAnswer → Likes → PageCheck
found_with order sheet answers likes = found_in (checked_rows order sheet answers likes 0 [] sheet.rows)

-- each row with what the archive answers for it, where places are to be made or not
abbrev pub found_on : Content → ℕ → Option DateOrder → Bool → Sheet → PageCheck
found_on c source order makes sheet =
    found_with order sheet (answers_on c source makes sheet) (likes_on c (answers_on c source makes sheet))

-- the entries would be of a source, which has to be there
abbrev pub sheet_check : Content → ℕ → Option DateOrder → Bool → Sheet
    → Result (Result PageCheck PageFault) RefusalKind
sheet_check c source order makes sheet =
    and_then (demanded_at c Source source) (λ u. Ok (Ok (found_on c source order makes sheet)))

abbrev pub unless_unread : Content → ℕ → Option DateOrder → Bool → Result Sheet PageFault
    → Result (Result PageCheck PageFault) RefusalKind
unless_unread c source order makes (Ok sheet) = sheet_check c source order makes sheet
unless_unread c source order makes (Err fault) = Ok (Err fault)

-- the page of bytes
abbrev pub page_check : Content → ℕ → Option DateOrder → Bool → List ℕ
    → Result (Result PageCheck PageFault) RefusalKind
page_check c source order makes bytes = unless_unread c source order makes (sheet_of bytes)
