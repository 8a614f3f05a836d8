-- Sets of which each byte is a character by itself. The tables have the characters of the bytes from 80 on.
use Rattle.std.specs.Prelude.{ℕ, ◌-◌, ◌==◌, Bool, List, nat_lt, slice_index_or, if◌then◌else◌}
use Rattle.character_sets.specs.declared.tables.TheConstants.{CODE_PAGE_437, CODE_PAGE_850}

-- ASCII itself, and above it what the table has; U+FFFD: the set has not the byte
abbrev pub character : List ℕ → ℕ → ℕ
character table unit = if nat_lt unit 128 then unit else slice_index_or table (unit - 128) 0xFFFD

-- code pages 437 and 850 have the same character for the byte
unfoldable pub is_alike : ℕ → Bool
is_alike unit = character CODE_PAGE_437 unit == character CODE_PAGE_850 unit
