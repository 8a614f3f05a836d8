-- The key of a link in a table: the number that is named and the number of the record that names it, in one number of
-- 64 bits with a sign, so that the links to one number are side by side. A rule of our own.
use Rattle.std.specs.Prelude.{ℕ, ℤ, pos, ◌+◌, ◌*◌, ◌-ℤ◌}

-- named × 2^32 + number − 2^63
abbrev pub link_key : ℕ → ℕ → ℤ
link_key named number = pos (named * 4294967296 + number) -ℤ pos 9223372036854775808
