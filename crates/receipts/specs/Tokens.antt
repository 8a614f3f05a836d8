-- Tokens, by their bytes: a rule of our own.
use Rattle.std.specs.Prelude.{◌≡◌, ℕ, ◌<◌, ◌≤◌, Bool, true, ◌&&◌, nat_le, List, length}
use Rattle.std.specs.List.{list_all}

-- a character from `!` to `~`
abbrev pub is_printable : ℕ → Bool
is_printable b = nat_le 33 b && nat_le b 126

-- 1 to 64 characters from `!` to `~`
pub record IsToken (bytes : List ℕ) : Type 0 where
  pub some : 0 < length bytes
  pub short : length bytes ≤ 64
  pub printed : list_all is_printable bytes ≡ true
