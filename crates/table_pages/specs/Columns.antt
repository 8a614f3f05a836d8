-- What the columns of a page are, and which stands twice.
use Rattle.std.specs.Prelude.{ℕ, ◌+◌, ◌*◌, ◌==◌, ◌&&◌, Bool, nat_lt, List}
use Rattle.std.specs.List.{list_any}
use Rattle.record_fields.specs.declared.entry_words.Role.{Role}
use Rattle.record_fields.specs.declared.entry_words.Role.TheVariants as role
use Rattle.table_pages.specs.declared.columns.Column.{Column}
use Rattle.table_pages.specs.declared.columns.Column.TheVariants.{
  Kind,
  Page,
  Item,
  Date,
  Place,
  Text,
  Mention,
  Own,
  Unnamed,
}

abbrev pub role_code : Role → ℕ
role_code role.Child = 1
role_code role.Father = 2
role_code role.Mother = 3
role_code role.Godparent = 4
role_code role.Groom = 5
role_code role.Bride = 6
role_code role.FatherOfGroom = 7
role_code role.FatherOfBride = 8
role_code role.Witness = 9
role_code role.Buried = 10
role_code role.Spouse = 11

-- a number for each column, one of its own where it stands once: the number of a role is at most 100
abbrev pub column_code : Column → ℕ
column_code Kind = 1
column_code Page = 2
column_code Item = 3
column_code Date = 4
column_code Place = 5
column_code Text = 6
column_code (Mention role number) = 256 * role_code role + number
column_code Own = 0
column_code Unnamed = 0

abbrev pub has_code : ℕ → List Column → Bool
has_code code columns = list_any (λ c. column_code c == code) columns

-- the column is one that stands once, and is one of these
abbrev pub stands_in : List Column → Column → Bool
stands_in columns column = nat_lt 0 (column_code column) && has_code (column_code column) columns
