-- The register entries of a source as a table: rules of our own.
use Rattle.std.specs.Prelude.{
  ℕ,
  zero,
  suc,
  ◌+◌,
  ◌-◌,
  ◌==◌,
  Bool,
  nat_lt,
  if◌then◌else◌,
  List,
  [],
  ◌∷◌,
  ◌++◌,
  chars,
  codes,
  decimal,
  encode_utf8_all,
  fold,
  map,
  replicate,
  Option,
  Some,
  None,
}
use Rattle.std.specs.List.{count_by, flat_map}
use Rattle.csv.specs.Writing.{default_writer, row_text}
use Rattle.list_rows.specs.Cells.{cell}
use Rattle.record_fields.specs.Words.{entry_kind_word, role_word}
use Rattle.record_fields.specs.declared.date.Date.{Date}
use Rattle.record_fields.specs.declared.entry_words.Role.{Role}
use Rattle.record_fields.specs.declared.entry_words.Role.TheVariants as role
use Rattle.record_kinds.specs.Model as model
use Rattle.searching.specs.Printing.{shown_character}

-- a register entry with its number
abbrev pub Numbered : Type 0
Numbered = ℕ × model.Entry

-- ---- cells
-- each control character but LF, and each that turns the direction of a text, is a space
abbrev pub shown_in_cell : ℕ → ℕ
shown_in_cell c = if c == 10 then 10 else shown_character c

abbrev pub text_cell : List ℕ → List ℕ
text_cell text = cell (encode_utf8_all (map shown_in_cell (chars text)))

abbrev pub date_cell : Option Date → List ℕ
date_cell None = []
date_cell (Some d) = text_cell d.text

abbrev pub place_cell : Option ℕ → List ℕ
place_cell None = []
place_cell (Some n) = cell (decimal n)

-- the cells that each entry has
abbrev pub own_cells : Numbered → List (List ℕ)
own_cells e = cell (decimal e.0) ∷ cell (entry_kind_word e.1.kind) ∷ text_cell e.1.page ∷ cell (decimal e.1.item.number)
    ∷ date_cell e.1.date ∷ place_cell e.1.place ∷ text_cell e.1.text ∷ []

-- ---- mentions
abbrev pub roles : List Role
roles = role.Child ∷ role.Buried ∷ role.Groom ∷ role.FatherOfGroom ∷ role.Bride ∷ role.FatherOfBride ∷ role.Spouse
    ∷ role.Father ∷ role.Mother ∷ role.Godparent ∷ role.Witness ∷ []

abbrev pub rank : Role → ℕ
rank role.Child = 1
rank role.Father = 2
rank role.Mother = 3
rank role.Godparent = 4
rank role.Groom = 5
rank role.Bride = 6
rank role.FatherOfGroom = 7
rank role.FatherOfBride = 8
rank role.Witness = 9
rank role.Buried = 10
rank role.Spouse = 11

abbrev pub is_in : Role → model.Mention → Bool
is_in r x = rank x.role == rank r

-- how many mentions are in a role, and the cells of their names
abbrev pub count : Role → List model.Mention → ℕ
count r xs = count_by (is_in r) xs

abbrev pub name_cell : Role → model.Mention → List (List ℕ)
name_cell r x = if is_in r x then text_cell x.name ∷ [] else []

-- so many cells of a role: those of its mentions, and then empty ones
abbrev pub role_cells : Role → ℕ → List model.Mention → List (List ℕ)
role_cells r n xs = flat_map (name_cell r) xs ++ replicate (n - count r xs) []

-- ---- columns
-- so many columns of a role: its word, then its word with 2, and so on
abbrev pub column_name : Role → ℕ → List ℕ
column_name r zero = role_word r
column_name r (suc k) = role_word r ++ (codes " " ++ decimal (k + 2))

abbrev pub role_columns : Role → ℕ → List (List ℕ)
role_columns r zero = []
role_columns r (suc n) = role_columns r n ++ cell (column_name r n) ∷ []

-- as many columns of a role as some entry has mentions in it
abbrev pub more : ℕ → ℕ → ℕ
more n m = if nat_lt n m then m else n

abbrev pub widest : Role → List Numbered → ℕ
widest r es = fold (λ n (e : Numbered). more n (count r e.1.mentions)) 0 es

abbrev pub widths : List Role → List Numbered → List (Role × ℕ)
widths rs es = map (λ r. (r, widest r es)) rs

-- the number of the entry is in a column of which a page of a spreadsheet is not read
abbrev pub own_columns : List (List ℕ)
own_columns = cell (codes "#number") ∷ cell (codes "kind") ∷ cell (codes "page") ∷ cell (codes "item")
    ∷ cell (codes "date") ∷ cell (codes "place") ∷ cell (codes "text") ∷ []

-- ---- rows
abbrev pub header : List (Role × ℕ) → List (List ℕ)
header ws = own_columns ++ flat_map (λ (w : Role × ℕ). role_columns w.0 w.1) ws

abbrev pub entry_cells : List (Role × ℕ) → Numbered → List (List ℕ)
entry_cells ws e = own_cells e ++ flat_map (λ (w : Role × ℕ). role_cells w.0 w.1 e.1.mentions) ws

abbrev pub entry_row : List (Role × ℕ) → Numbered → List ℕ
entry_row ws e = row_text default_writer (entry_cells ws e)

abbrev pub rows : List (Role × ℕ) → List Numbered → List ℕ
rows ws es = row_text default_writer (header ws) ++ flat_map (entry_row ws) es

-- the header, and a row for each entry
abbrev pub table : List Numbered → List ℕ
table es = rows (widths roles es) es
