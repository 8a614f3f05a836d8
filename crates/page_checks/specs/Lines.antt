-- What is found on a page as lines: rules of our own.
use Rattle.std.specs.Prelude.{
  ℕ,
  ◌==◌,
  List,
  [],
  ◌++◌,
  length,
  take,
  chars,
  codes,
  count_by,
  decimal,
  encode_utf8_all,
  if◌then◌else◌,
}
use Rattle.std.specs.List.{flat_map}
use Rattle.record_text.specs.Refusals as refusal
use Rattle.searching.specs.Printing.{shown}
use Rattle.table_pages.specs.Faults as fault
use Rattle.page_checks.specs.Findings.{is_doubtful, is_wrong}
use Rattle.page_checks.specs.declared.findings.CheckedRow.{CheckedRow}
use Rattle.page_checks.specs.declared.findings.Doubt.{Doubt}
use Rattle.page_checks.specs.declared.findings.Doubt.TheVariants.{Like, Long, NewPlace, NoPage, Page, Words}
use Rattle.page_checks.specs.declared.findings.Finding.{Finding}
use Rattle.page_checks.specs.declared.findings.What.{What}
use Rattle.page_checks.specs.declared.findings.What.TheVariants.{Fault, Refused, Doubtful}

-- ---- texts
-- at most 60 characters, control characters as spaces
abbrev pub cut : List ℕ → List ℕ
cut text = shown (encode_utf8_all (take 60 (chars text)))

-- a text after what is before it; nothing, where it is empty
abbrev pub part : List ℕ → List ℕ
part text = if length text == 0 then [] else codes ": " ++ cut text

-- ---- lines
abbrev pub refused : ℕ → List ℕ → List ℕ → List ℕ
refused number name column = decimal number ++ (codes " " ++ (name ++ part column))

abbrev pub doubt_word : Doubt → List ℕ
doubt_word Words = codes "words"
doubt_word NoPage = codes "no page"
doubt_word Page = codes "page"
doubt_word Long = codes "long"
doubt_word NewPlace = codes "new place"
doubt_word Like = codes "like"

abbrev pub doubted : Doubt → List ℕ → List ℕ
doubted doubt column = codes "doubt" ++ (part column ++ (codes ": " ++ doubt_word doubt))

abbrev pub said : What → List ℕ → List ℕ
said (Fault kind) column = refused (fault.number_of kind) (fault.name_of kind) column
said (Refused kind) column = refused (refusal.number_of kind) (refusal.name_of kind) column
said (Doubtful doubt) column = doubted doubt column

-- `row 3: 90 BadRow: item: 12a`, or `row 3: doubt: page: no page`
abbrev pub line : ℕ → Finding → List ℕ
line row f = codes "row " ++ (decimal row ++ (codes ": " ++ (said f.what f.column ++ (part f.cell ++ codes "\n"))))

abbrev pub row_lines : CheckedRow → List ℕ
row_lines row = flat_map (line row.number) row.findings

-- ---- the text
abbrev pub sum : ℕ → ℕ → ℕ → List ℕ
sum rows wrong doubtful = decimal rows ++ (codes " rows, " ++ (decimal wrong ++ (codes " wrong, "
    ++ (decimal doubtful ++ codes " doubtful\n"))))

-- a line for all that is found, and at the end how many rows there are, and how many are wrong and doubtful
abbrev pub text : List CheckedRow → List ℕ
text rows = flat_map row_lines rows ++ sum (length rows) (count_by is_wrong rows) (count_by is_doubtful rows)
