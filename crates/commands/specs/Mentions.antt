-- How many mentions a row of a register entry gives: a rule of our own.
use Rattle.std.specs.Prelude.{◌≤◌, ◌&&◌, Bool, List, length, nat_le}

-- 1 to 100
abbrev pub IsCount : {A : Type 0} → List A → Type 0
IsCount ms = (1 ≤ length ms) × (length ms ≤ 100)

abbrev pub is_count : {A : Type 0} → List A → Bool
is_count ms = nat_le 1 (length ms) && nat_le (length ms) 100
