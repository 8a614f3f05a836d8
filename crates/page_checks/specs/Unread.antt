-- What is printed of a page that cannot be read as a sheet: the line of a refusal, and hints of our own.
use Rattle.std.specs.Prelude.{ℕ, List, [], ◌++◌, codes, decimal}
use Rattle.table_pages.specs.Faults as fault
use Rattle.table_pages.specs.declared.fault.FaultKind.{FaultKind}
use Rattle.table_pages.specs.declared.fault.FaultKind.TheVariants as kind
use Rattle.table_pages.specs.declared.fault.PageFault.{PageFault}
use Rattle.page_checks.specs.Lines.{cut}

-- `parish: 97 UnknownColumn at row 1`
abbrev pub refusal_line : FaultKind → ℕ → List ℕ
refusal_line k row = codes "parish: " ++ (decimal (fault.number_of k) ++ (codes " " ++ (fault.name_of k
    ++ (codes " at row " ++ (decimal row ++ codes "\n")))))

-- a line that begins with two spaces
abbrev pub hint_line : List ℕ → List ℕ → List ℕ
hint_line words name = codes "  " ++ (words ++ (cut name ++ codes "\n"))

-- which columns there are
abbrev pub columns_line : List ℕ
columns_line = hint_line (codes "there are kind, page, item, date, place, text and roles, like godparent 2") []

-- what was found, and what to do
abbrev pub hint : FaultKind → List ℕ → List ℕ
hint kind.NotUtf8 name = hint_line (codes "save the sheet as \"CSV UTF-8\", or say --from 1252") []
hint kind.OpenQuote name = hint_line (codes "a quote that begins there is not closed") []
hint kind.UnknownColumn name = hint_line (codes "no such column: ") name ++ columns_line
hint kind.RepeatedColumn name = hint_line (codes "the column stands twice: ") name
hint kind.MissingColumn name = hint_line (codes "the column is missing: ") name
hint _ name = []

abbrev pub lines : PageFault → List ℕ
lines f = refusal_line f.kind f.row ++ hint f.kind f.column
