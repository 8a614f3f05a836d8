-- What is said of a page's entries beside what they are.
use Rattle.std.specs.Prelude.{ℕ, Bool, List, map, count_by}
use Rattle.page_entries.specs.declared.entries.PageEntry.{PageEntry}

-- its date has no days but words
unfoldable pub is_words : PageEntry → Bool
is_words e = e.date.is_words

-- how many dates have
abbrev pub count_words : List PageEntry → ℕ
count_words entries = count_by is_words entries

-- the numbers of the rows, as the sheet shows them
abbrev pub numbers_of : List PageEntry → List ℕ
numbers_of entries = map (λ (e : PageEntry). e.row) entries
