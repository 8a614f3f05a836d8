-- What is listed of an archive, as lines and as rows of CSV: rules of our own.
use Rattle.std.specs.Prelude.{
  ℕ,
  List,
  [],
  ◌∷◌,
  ◌++◌,
  codes,
  decimal,
  if◌then◌else◌,
  is_some,
  length,
  nat_lt,
  Option,
  Some,
  None,
}
use Rattle.std.specs.List.{flat_map}
use Rattle.std.specs.FinMap.{entries, get}
use Rattle.archive_state.specs.Content.{Content, Records}
use Rattle.doubts.specs.Doubts.{review}
use Rattle.entry_tables.specs.Tables.{Numbered, table}
use Rattle.list_rows.specs.Cells.{numbered, row}
use Rattle.record_kinds.specs.declared.record.Record.{Record}
use Rattle.record_kinds.specs.declared.record.Record.TheVariants as kind
use Rattle.searching.specs.Lines.{page, page_and_others}
use Rattle.searching.specs.declared.wanted.Listing.{Listing}
use Rattle.showing.specs.SlipLists.{slip_page}
use Rattle.record_lists.specs.declared.listed.Chosen.{Chosen}
use Rattle.record_lists.specs.declared.listed.Chosen.TheVariants as chosen
use Rattle.record_lists.specs.declared.listed.Listed.{Listed}

-- the number of a record, and its line
abbrev pub Line : Type 0
Line = ℕ × List ℕ

-- ---- lines
-- a line with its end
abbrev pub ended : Line → List ℕ
ended l = l.1 ++ codes "\n"

-- how many records are left out, where there are some
abbrev pub more_text : ℕ → List ℕ
more_text n = if nat_lt 0 n then codes "and " ++ (decimal n ++ codes " more\n") else []

-- lines, and how many records there are besides
abbrev pub counted_text : List Line × List ℕ → List ℕ
counted_text found = flat_map ended found.0 ++ more_text (length found.1)

-- the lines of the first so many records after a number that are wanted; where it is asked for, how many more there are
abbrev pub records_lines : Listing → Content → List ℕ
records_lines l c =
    if l.counts_others then counted_text (page_and_others l.wanted l.after l.limit (entries c.records))
    else flat_map ended (page l.wanted l.after l.limit (entries c.records))

abbrev pub lines_text : Chosen → Content → List ℕ
lines_text (chosen.Records l) c = records_lines l c
lines_text (chosen.Slips after limit) c = flat_map ended (slip_page after limit c)
lines_text chosen.Doubts c = flat_map ended (review c)

-- ---- rows of CSV
-- a row for a line: its number, and what it says of that
abbrev pub line_row : Line → List ℕ
line_row l = row (numbered l)

-- a header, and a row for each line
unfoldable pub line_rows : List ℕ → List Line → List ℕ
line_rows said ls = row (codes "number" ∷ said ∷ []) ++ flat_map line_row ls

-- how many records are left out, where there are some: a row without a number
abbrev pub more_row : ℕ → List ℕ
more_row n = if nat_lt 0 n then row ([] ∷ (codes "and " ++ (decimal n ++ codes " more")) ∷ []) else []

abbrev pub counted_rows : List Line × List ℕ → List ℕ
counted_rows found = line_rows (codes "description") found.0 ++ more_row (length found.1)

abbrev pub described_rows : Listing → Content → List ℕ
described_rows l c =
    if l.counts_others then counted_rows (page_and_others l.wanted l.after l.limit (entries c.records))
    else line_rows (codes "description") (page l.wanted l.after l.limit (entries c.records))

-- a record, if it is a register entry, and what stands at a number
abbrev pub entry_of : ℕ → Record → List Numbered
entry_of n (kind.Entry e) = (n, e) ∷ []
entry_of n _ = []

abbrev pub entry_at : ℕ → Option Record → List Numbered
entry_at n None = []
entry_at n (Some r) = entry_of n r

abbrev pub entries_of : Records → List Line → List Numbered
entries_of m ls = flat_map (λ (l : Line). entry_at l.0 (get m l.0)) ls

-- the register entries among what is listed
abbrev pub listed_entries : Listing → Content → List Numbered
listed_entries l c = entries_of c.records (page l.wanted l.after l.limit (entries c.records))

-- register entries with the columns of a page
abbrev pub entry_table : Listing → Content → List ℕ
entry_table l c = table (listed_entries l c)

-- the entries of a source have the columns of a page; all other records a number and a description
abbrev pub records_rows : Listing → Content → List ℕ
records_rows l c = if is_some l.wanted.source then entry_table l c else described_rows l c

abbrev pub rows_text : Chosen → Content → List ℕ
rows_text (chosen.Records l) c = records_rows l c
rows_text (chosen.Slips after limit) c = line_rows (codes "description") (slip_page after limit c)
rows_text chosen.Doubts c = line_rows (codes "doubt") (review c)

-- what is listed, as rows or as lines
abbrev pub list_text : Listed → Content → List ℕ
list_text l c = if l.is_csv then rows_text l.of c else lines_text l.of c
