-- A cell that entering a page would refuse has its line.
use Rattle.std.proofs.Common.{
  ◌≡◌,
  ℕ,
  zero,
  suc,
  ◌+◌,
  List,
  [],
  ◌∷◌,
  ◌++◌,
  Bool,
  refl,
  sym,
  ap,
  ◌∙◌,
  subst,
  inl,
  inr,
  append_assoc,
  arith,
}
use Rattle.std.specs.Prelude.{Option, Some, None, slice_get}
use Rattle.std.specs.List.{flat_map}
use Rattle.std.proofs.lemmas.Grind.{flat_map-append}
use Rattle.archive_state.specs.Content.{Content}
use Rattle.record_fields.specs.declared.entry_words.EntryKind.{EntryKind}
use Rattle.record_fields.specs.declared.entry_words.Role.{Role}
use Rattle.table_pages.specs.Sheets.{Sheet}
use Rattle.table_pages.specs.declared.columns.Column.{Column}
use Rattle.table_pages.specs.declared.columns.Column.TheVariants as column
use Rattle.table_pages.specs.declared.fault.FaultKind.{FaultKind}
use Rattle.table_pages.specs.declared.fault.FaultKind.TheVariants.{BadDate, BadItem, BadKind}
use Rattle.table_pages.specs.declared.sheet.SheetRow.{SheetRow}
use Rattle.page_entries.specs.Checks.{text_fault}
use Rattle.page_entries.specs.Entries.{cell_under, kind_in}
use Rattle.page_entries.specs.Under.{cell_at}
use Rattle.page_entries.specs.declared.dates.DateOrder.{DateOrder}
use Rattle.page_answers.specs.Answers.{answers_on}
use Rattle.page_answers.specs.NewPlaces.{likes_on}
use Rattle.page_checks.specs.Cells.{
  dated,
  faulty,
  if_none,
  if_refused,
  meaning_of,
  of_mention,
  or_meaning,
  placed,
  what_of,
}
use Rattle.page_checks.specs.Findings.{maybe}
use Rattle.page_answers.specs.Keys.{key_of}
use Rattle.page_checks.specs.Laws.{Has, IsRefused, Misses}
use Rattle.page_checks.specs.Lines.{line, row_lines}
use Rattle.page_checks.specs.Page.{found_on}
use Rattle.page_checks.specs.Rows.{
  answer_at,
  checked_row,
  checked_rows,
  is_repeated,
  Likes,
  known_of,
  of_news,
  under_column,
  under_columns,
}
use Rattle.page_answers.specs.declared.answers.RowAnswer.{RowAnswer}
use Rattle.page_checks.specs.declared.cells.Known.{Known}
use Rattle.page_checks.specs.declared.findings.Finding.{Finding}
use Rattle.page_checks.specs.declared.findings.What.{What}
use Rattle.page_checks.specs.declared.findings.What.TheVariants.{Fault}
use Rattle.page_answers.specs.declared.keys.Key.{Key}

-- ---- what is found in the cell
mention_missed : (order : Option DateOrder) (kind : Option EntryKind) (role : Role) (number : ℕ) (cell : List ℕ)
    → Misses order kind (column.Mention role number) cell
    → (why : FaultKind) × (of_mention kind role number cell ≡ Some (Fault why))
mention_missed order None role number cell h = absurd h
mention_missed order (Some kind) role number cell h = (h.0, ap faulty h.1)

missed : (known : Known) (c : Column) (cell : List ℕ) → Misses known.order known.kind c cell
    → (why : FaultKind) × (meaning_of known c cell ≡ Some (Fault why))
missed known column.Kind cell h = (BadKind, ap (if_none BadKind) h)
missed known column.Page cell h = absurd h
missed known column.Item cell h = (BadItem, ap (if_refused BadItem) h.1)
missed known column.Date cell h = (BadDate, ap dated h)
missed known column.Place cell h = (h.0, ap (placed known.place) h.1)
missed known column.Text cell h = absurd h
missed known (column.Mention role number) cell h = mention_missed known.order known.kind role number cell h
missed known column.Own cell h = absurd h
missed known column.Unnamed cell h = absurd h

or_missed : (known : Known) (c : Column) (cell : List ℕ) (fault : Option FaultKind)
    → Misses known.order known.kind c cell → (why : FaultKind) × (or_meaning known c cell fault ≡ Some (Fault why))
or_missed known c cell None h = missed known c cell h
or_missed known c cell (Some why) h = (why, refl)

wrong_cell : (known : Known) (c : Column) (cell : List ℕ) → IsRefused known.order known.kind c cell
    → (why : FaultKind) × (what_of known c cell ≡ Some (Fault why))
wrong_cell known c cell (inl h) = (h.0, ap (or_meaning known c cell) h.1)
wrong_cell known c cell (inr h) = or_missed known c cell (text_fault (Some c) cell) h

-- ---- parts of texts
has_first : (part back : List ℕ) → Has (part ++ back) part
has_first part back = ([], back, refl)

has_left : (a b part : List ℕ) → Has a part → Has (a ++ b) part
has_left a b part h = (
  h.0,
  h.1 ++ b,
  ap (λ (t : List ℕ). t ++ b) h.2 ∙ append_assoc h.0 (part ++ h.1) b
      ∙ ap (λ (t : List ℕ). h.0 ++ t) (append_assoc part h.1 b),
)

has_right : (a b part : List ℕ) → Has b part → Has (a ++ b) part
has_right a b part h = (
  a ++ h.0,
  h.1,
  ap (λ (t : List ℕ). a ++ t) h.2 ∙ sym (append_assoc a h.0 (part ++ h.1)),
)

-- ---- the lines of a row
lines_left : (n : ℕ) (fs gs : List Finding) (part : List ℕ) → Has (flat_map (line n) fs) part
    → Has (flat_map (line n) (fs ++ gs)) part
lines_left n fs gs part h =
    subst (λ (t : List ℕ). Has t part) (sym (flat_map-append (line n) fs gs))
    (has_left (flat_map (line n) fs) (flat_map (line n) gs) part h)

lines_right : (n : ℕ) (fs gs : List Finding) (part : List ℕ) → Has (flat_map (line n) gs) part
    → Has (flat_map (line n) (fs ++ gs)) part
lines_right n fs gs part h =
    subst (λ (t : List ℕ). Has t part) (sym (flat_map-append (line n) fs gs))
    (has_right (flat_map (line n) fs) (flat_map (line n) gs) part h)

abbrev finding : What → List (List ℕ) → List (List ℕ) → ℕ → Finding
finding what names cells k = record { what = what; column = cell_at names k; cell = cell_at cells k }

here_has : (n : ℕ) (known : Known) (likes : Likes) (news names cells : List (List ℕ)) (k : ℕ) (c : Column) (what : What)
    → what_of known c (cell_at cells k) ≡ Some what
    → Has (flat_map (line n) (under_column known likes news c (cell_at names k) (cell_at cells k)))
    (line n (finding what names cells k))
here_has n known likes news names cells k c what found =
    lines_left n (maybe (what_of known c (cell_at cells k)) (cell_at names k) (cell_at cells k))
    (of_news likes news c (cell_at names k)) (line n (finding what names cells k))
    (subst (λ (w : Option What). Has (flat_map (line n) (maybe w (cell_at names k) (cell_at cells k)))
    (line n (finding what names cells k))) (sym found) (has_first (line n (finding what names cells k)) []))

cell_has : (n : ℕ) (known : Known) (likes : Likes) (news names cells : List (List ℕ)) (at : ℕ)
    (columns : List Column) (j k : ℕ) (c : Column) (what : What) → k ≡ at + j → slice_get columns j ≡ Some c
    → what_of known c (cell_at cells k) ≡ Some what
    → Has (flat_map (line n) (under_columns known likes news names cells at columns))
    (line n (finding what names cells k))
cell_has n known likes news names cells at [] j k c what e is found = absurd cc
cell_has n known likes news names cells at (d ∷ columns) zero k c what e is found =
    let same : k ≡ at = omega (arith, e) in
    let column : Some c ≡ Some d = sym is in
    let one : c ≡ d = cc in
    lines_left n (under_column known likes news d (cell_at names at) (cell_at cells at))
    (under_columns known likes news names cells (at + 1) columns) (line n (finding what names cells k))
    (subst (λ m. Has (flat_map (line n) (under_column known likes news d (cell_at names m) (cell_at cells m)))
    (line n (finding what names cells k))) same
    (subst (λ (x : Column).
    Has (flat_map (line n) (under_column known likes news x (cell_at names k) (cell_at cells k)))
    (line n (finding what names cells k))) one (here_has n known likes news names cells k c what found)))
cell_has n known likes news names cells at (d ∷ columns) (suc j) k c what e is found =
    let next : k ≡ (at + 1) + j = omega (arith, e) in
    lines_right n (under_column known likes news d (cell_at names at) (cell_at cells at))
    (under_columns known likes news names cells (at + 1) columns) (line n (finding what names cells k))
    (cell_has n known likes news names cells (at + 1) columns j k c what next is found)

-- ---- the lines of all rows
row_has : (order : Option DateOrder) (sheet : Sheet) (answers : List RowAnswer) (likes : Likes) (at : ℕ)
    (before rows : List SheetRow) (i k : ℕ) (row : SheetRow) (part : List ℕ) → k ≡ at + i → slice_get rows i ≡ Some row
    → ((key : Option Key) (repeated : Bool)
    → Has (row_lines (checked_row order sheet (answer_at answers k) likes key repeated row)) part)
    → Has (flat_map row_lines (checked_rows order sheet answers likes at before rows)) part
row_has order sheet answers likes at before [] i k row part e is h = absurd cc
row_has order sheet answers likes at before (r ∷ rows) zero k row part e is h =
    let same : k ≡ at = omega (arith, e) in
    let rows-same : Some row ≡ Some r = sym is in
    let one : row ≡ r = cc in
    has_left
    (row_lines
    (checked_row order sheet (answer_at answers at) likes (key_of sheet r) (is_repeated sheet before r) r))
    (flat_map row_lines (checked_rows order sheet answers likes (at + 1) (before ++ r ∷ []) rows)) part
    (subst (λ m. Has (row_lines
    (checked_row order sheet (answer_at answers m) likes (key_of sheet r) (is_repeated sheet before r) r)) part) same
    (subst (λ (x : SheetRow). Has (row_lines
    (checked_row order sheet (answer_at answers k) likes (key_of sheet r) (is_repeated sheet before r) x)) part) one
    (h (key_of sheet r) (is_repeated sheet before r))))
row_has order sheet answers likes at before (r ∷ rows) (suc i) k row part e is h =
    let next : k ≡ (at + 1) + i = omega (arith, e) in
    has_right
    (row_lines
    (checked_row order sheet (answer_at answers at) likes (key_of sheet r) (is_repeated sheet before r) r))
    (flat_map row_lines (checked_rows order sheet answers likes (at + 1) (before ++ r ∷ []) rows)) part
    (row_has order sheet answers likes (at + 1) (before ++ r ∷ []) rows i k row part next is h)

pub refused_has : (content : Content) (source : ℕ) (order : Option DateOrder) (makes : Bool) (sheet : Sheet) (i j : ℕ)
    (row : SheetRow) (c : Column) → slice_get sheet.rows i ≡ Some row → slice_get sheet.columns j ≡ Some c
    → IsRefused order (kind_in (cell_under sheet row column.Kind)) c (cell_at row.cells j)
    → (why : FaultKind) × Has (found_on content source order makes sheet).text
    (line row.number (finding (Fault why) sheet.names row.cells j))
refused_has content source order makes sheet i j row c at_row at_column refused =
    let answers = answers_on content source makes sheet in
    let likes : Likes = likes_on content answers in
    let news = (answer_at answers i).news in
    let known = known_of order sheet (answer_at answers i) row in
    let wrong = wrong_cell known c (cell_at row.cells j) refused in
    let part = line row.number (finding (Fault wrong.0) sheet.names row.cells j) in
    let from : j ≡ 0 + j = omega arith in
    let first : i ≡ 0 + i = omega arith in
    let under = under_columns known likes news sheet.names row.cells 0 sheet.columns in
    let inside = cell_has row.number known likes news sheet.names row.cells 0 sheet.columns j j c (Fault wrong.0) from
    at_column wrong.1 in (
      wrong.0,
      has_left (flat_map row_lines (checked_rows order sheet answers likes 0 [] sheet.rows)) _ part
          (row_has order sheet answers likes 0 [] sheet.rows i i row part first at_row
          (λ key repeated. lines_left row.number under _ part inside)),
    )
