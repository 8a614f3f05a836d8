-- Numbers in cells.
use Rattle.std.specs.Prelude.{ℕ, ◌-◌, ◌==◌, ◌&&◌, ◌||◌, Bool, nat_le, List, length, take, slice_index, if◌then◌else◌}
use Rattle.std.specs.Char.{is_ascii_digit}
use Rattle.std.specs.List.{list_all}

-- only digits, at least and at most so many
abbrev pub are_digits : ℕ → ℕ → List ℕ → Bool
are_digits least most bytes =
    nat_le least (length bytes) && nat_le (length bytes) most && list_all is_ascii_digit bytes

abbrev pub from_end : List ℕ → ℕ → ℕ
from_end bytes k = slice_index bytes (length bytes - k)

-- a full stop or a comma
abbrev pub is_point : ℕ → Bool
is_point b = b == 46 || b == 44

-- without `.0` or `,0` at the end, which spreadsheets write after a number
abbrev pub whole : List ℕ → List ℕ
whole cell =
    if nat_le 2 (length cell) && (from_end cell 1 == 48 && is_point (from_end cell 2))
    then take (length cell - 2) cell else cell
