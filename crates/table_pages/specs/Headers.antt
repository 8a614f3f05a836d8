-- The header of a page: which column each of its cells names. A field is named by its word, a role by its word and
-- maybe a number from 1 to 100, in letters of either case; a run of blanks, `-` and `_` counts as one `-`.
use Rattle.std.specs.Prelude.{
  ℕ,
  ◌+◌,
  ◌-◌,
  ◌*◌,
  ◌==◌,
  ◌&&◌,
  ◌||◌,
  Bool,
  true,
  false,
  not,
  nat_le,
  nat_lt,
  List,
  [],
  ◌∷◌,
  ◌++◌,
  length,
  take,
  slice_index,
  codes,
  bytes_eq,
  Option,
  Some,
  None,
  option_map,
  Result,
  Ok,
  Err,
  if◌then◌else◌,
}
use Rattle.std.specs.Char.{is_ascii_digit, to_ascii_lowercase}
use Rattle.record_fields.specs.Words.{role_of}
use Rattle.record_fields.specs.declared.entry_words.Role.{Role}
use Rattle.table_pages.specs.Columns.{stands_in}
use Rattle.table_pages.specs.Faults.{fault}
use Rattle.table_pages.specs.declared.columns.Column.{Column}
use Rattle.table_pages.specs.declared.columns.Column.TheVariants.{
  Kind,
  Page,
  Item,
  Date,
  Place,
  Text,
  Mention,
  Own,
  Unnamed,
}
use Rattle.table_pages.specs.declared.fault.FaultKind.{FaultKind}
use Rattle.table_pages.specs.declared.fault.FaultKind.TheVariants.{UnknownColumn, RepeatedColumn}
use Rattle.table_pages.specs.declared.fault.PageFault.{PageFault}

-- ---- names
-- space, tab, LF, the bytes of U+00A0, `-` and `_`: no other character of a name that is known has these bytes
abbrev pub is_parting : ℕ → Bool
is_parting b = b == 32 || b == 9 || b == 10 || b == 194 || b == 160 || b == 45 || b == 95

-- a name in lower case, with one `-` for each run of these; none, where another character is not ASCII
abbrev pub key : Bool → List ℕ → Option (List ℕ)
key parted [] = Some []
key parted (b ∷ more) =
    if is_parting b then (if parted then key true more else option_map (λ k. 45 ∷ k) (key true more))
    else if nat_lt b 128 then option_map (λ k. to_ascii_lowercase b ∷ k) (key false more)
    else None

-- the first digit of a number
abbrev pub is_first : ℕ → Bool
is_first b = nat_le 49 b && nat_le b 57

-- the digits of 100
abbrev pub is_hundred : ℕ → ℕ → ℕ → Bool
is_hundred a b c = a == 49 && b == 48 && c == 48

abbrev pub from_end : List ℕ → ℕ → ℕ
from_end key k = slice_index key (length key - k)

-- `-` and a number from 1 to 100 at the end: how many bytes these are, and the number; else 0 and 1
abbrev pub numbered : List ℕ → ℕ × ℕ
numbered key =
    if nat_le 2 (length key) && (from_end key 2 == 45 && is_first (from_end key 1)) then (2, from_end key 1 - 48)
    else if nat_le 3 (length key)
    && (from_end key 3 == 45 && (is_first (from_end key 2) && is_ascii_digit (from_end key 1)))
    then (3, 10 * (from_end key 2 - 48) + (from_end key 1 - 48))
    else if nat_le 4 (length key)
    && (from_end key 4 == 45 && is_hundred (from_end key 3) (from_end key 2) (from_end key 1))
    then (4, 100)
    else (0, 1)

abbrev pub role_in : List ℕ → Option Role
role_in word = role_of word

abbrev pub mention_column : List ℕ → Option Column
mention_column key = option_map (λ role. Mention role (numbered key).1)
    (role_in (take (length key - (numbered key).0) key))

abbrev pub column_of_key : List ℕ → Option Column
column_of_key key =
    if bytes_eq key (codes "kind") then Some Kind
    else if bytes_eq key (codes "page") then Some Page
    else if bytes_eq key (codes "item") then Some Item
    else if bytes_eq key (codes "date") then Some Date
    else if bytes_eq key (codes "place") then Some Place
    else if bytes_eq key (codes "text") then Some Text
    else mention_column key

abbrev pub by_key : Option (List ℕ) → Option Column
by_key None = None
by_key (Some key) = column_of_key key

-- the column of a name
abbrev pub column_of : List ℕ → Option Column
column_of [] = Some Unnamed
column_of (b ∷ more) = if b == 35 then Some Own else by_key (key false (b ∷ more))

-- ---- the header
abbrev pub header_fault : FaultKind → List ℕ → PageFault
header_fault kind name = fault 1 kind name []

abbrev pub unless_repeated : List Column → List ℕ → Option Column → Result Column PageFault
unless_repeated columns name None = Err (header_fault UnknownColumn name)
unless_repeated columns name (Some column) =
    if stands_in columns column then Err (header_fault RepeatedColumn name) else Ok column

-- the column of a name after these
abbrev pub next_column : List Column → List ℕ → Result Column PageFault
next_column columns name = unless_repeated columns name (column_of name)

-- the columns of names after these, or the first fault
abbrev pub and_then : {A B E : Type 0} → Result A E → (A → Result B E) → Result B E
and_then (Ok a) f = f a
and_then (Err e) f = Err e

abbrev pub columns_from : List Column → List (List ℕ) → Result (List Column) PageFault
columns_from columns [] = Ok columns
columns_from columns (name ∷ names) =
    and_then (next_column columns name) (λ column. columns_from (columns ++ column ∷ []) names)

-- the first of the fields that each entry needs which has no column
abbrev pub missing : List Column → Option (List ℕ)
missing columns =
    if not (stands_in columns Kind) then Some (codes "kind")
    else if not (stands_in columns Page) then Some (codes "page")
    else if not (stands_in columns Item) then Some (codes "item")
    else None
