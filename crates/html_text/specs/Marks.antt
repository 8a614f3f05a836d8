-- What could be markup.
use Rattle.std.specs.Prelude.{ℕ, Bool, ◌||◌, not, nat_eq}

-- no `<`, no `>`, and no quote
abbrev pub is_no_mark : ℕ → Bool
is_no_mark c = not (nat_eq c 60 || nat_eq c 62 || nat_eq c 34 || nat_eq c 39)
