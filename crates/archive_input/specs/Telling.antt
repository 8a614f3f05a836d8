-- What is reported of an import. Rules of our own.
use Rattle.std.specs.Prelude.{◌++◌, ◌∷◌, [], ℕ, List, codes}
use Rattle.std.specs.Fmt.{decimal}
use Rattle.std.specs.List.{flat_map}
use Rattle.receipts.specs.Reports.{report_word}
use Rattle.receipts.specs.declared.answer.Answer.{Answer}
use Rattle.receipts.specs.declared.report.ReportLine.{ReportLine}

-- a line of the file, and what became of it
abbrev pub line_text : ReportLine → List ℕ
line_text said = codes "line " ++ (decimal said.line ++ (codes ": " ++ (report_word said.word ++ 10 ∷ [])))

-- how many records were made, and the number of the first
abbrev pub count_text : Answer → List ℕ
count_text answer = codes "imported "
    ++ (decimal answer.count ++ (codes " records, first " ++ (decimal answer.first ++ 10 ∷ [])))

-- that, and the lines of the report
abbrev pub import_text : Answer → List ReportLine → List ℕ
import_text answer said = count_text answer ++ flat_map line_text said
