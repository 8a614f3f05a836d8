-- What is printed of a page that is to be entered and is refused: as of one that is looked over, the line of the first
-- cell that is to blame.
use Rattle.std.specs.Prelude.{ℕ, Bool, true, false, List, ◌++◌, if◌then◌else◌}
use Rattle.record_text.specs.declared.refusal.RefusalKind.{RefusalKind}
use Rattle.table_pages.specs.declared.fault.FaultKind.{FaultKind}
use Rattle.table_pages.specs.declared.fault.FaultKind.TheVariants as kind
use Rattle.table_pages.specs.declared.fault.PageFault.{PageFault}
use Rattle.page_checks.specs.Lines.{line}
use Rattle.page_checks.specs.Unread.{lines, refusal_line}
use Rattle.page_checks.specs.declared.findings.Finding.{Finding}
use Rattle.page_checks.specs.declared.findings.What.{What}
use Rattle.page_checks.specs.declared.findings.What.TheVariants.{Fault, Refused}

abbrev pub finding : What → List ℕ → List ℕ → Finding
finding what column cell = record { what = what; column = column; cell = cell }

-- what an archive refuses: `row 3: 50 NoSuch: place: Ashby`
abbrev pub refused_line : ℕ → RefusalKind → List ℕ → List ℕ → List ℕ
refused_line row k column cell = line row (finding (Refused k) column cell)

-- the bytes are no sheet, or its columns are wrong
abbrev pub is_of_sheet : FaultKind → Bool
is_of_sheet kind.NotUtf8 = true
is_of_sheet kind.OpenQuote = true
is_of_sheet kind.UnknownColumn = true
is_of_sheet kind.RepeatedColumn = true
is_of_sheet kind.MissingColumn = true
is_of_sheet _ = false

-- of a row the line of its cell, and that of the refusal; of the sheet that of the refusal, and what to do
abbrev pub row_lines : PageFault → List ℕ
row_lines f = line f.row (finding (Fault f.kind) f.column f.cell) ++ refusal_line f.kind f.row

abbrev pub page_lines : PageFault → List ℕ
page_lines f = if is_of_sheet f.kind then lines f else row_lines f
