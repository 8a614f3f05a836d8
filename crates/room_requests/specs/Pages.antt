-- The pages of the reading room, and the paths that name them.
use Rattle.std.specs.Prelude.{
  ℕ,
  List,
  drop,
  length,
  codes,
  Bool,
  ◌&&◌,
  nat_le,
  nat_eq,
  bytes_eq,
  Option,
  Some,
  None,
  option_map,
  if◌then◌else◌,
}
use Rattle.std.specs.Char.{is_ascii_digit}
use Rattle.std.specs.List.{list_all, starts_with}
use Rattle.std.specs.Str.Parse.{digits_value}
use Rattle.room_requests.specs.declared.page.Page.{Page}
use Rattle.room_requests.specs.declared.page.Page.TheVariants as page

-- 1 to so many digits, of value 1 to 4,294,967,295; the first may be zeros
abbrev pub is_number : ℕ → List ℕ → Bool
is_number places text =
    list_all is_ascii_digit text && nat_le 1 (length text) && nat_le (length text) places
    && nat_le 1 (digits_value 10 text) && nat_le (digits_value 10 text) 4294967295

-- the number that the text is
unfoldable pub number_in : ℕ → List ℕ → Option ℕ
number_in places text = if is_number places text then Some (digits_value 10 text) else None

-- the number after a front, where the path begins with it
abbrev pub number_behind : List ℕ → List ℕ → Option ℕ
number_behind front path =
    if starts_with nat_eq path front then number_in 10 (drop (length front) path) else None

-- the first of two that is there
abbrev pub or_else : Option Page → Option Page → Option Page
or_else None other = other
or_else (Some found) other = Some found

-- the pages of one record
abbrev pub numbered_page : List ℕ → Option Page
numbered_page path =
    or_else (option_map page.Person (number_behind (codes "/person/") path))
    (or_else (option_map page.Family (number_behind (codes "/family/") path))
    (or_else (option_map page.Pedigree (number_behind (codes "/pedigree/") path))
    (option_map page.Register (number_behind (codes "/register/") path))))

-- the page that a path names
abbrev pub page_of : List ℕ → Option Page
page_of path =
    if bytes_eq path (codes "/") then Some page.Index
    else (if bytes_eq path (codes "/surname") then Some page.Surname else numbered_page path)
