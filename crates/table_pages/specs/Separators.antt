-- The character that parts the cells of a sheet: what a first row `sep=` names, or the one of comma, semicolon and tab
-- that the header has most of.
use Rattle.std.specs.Prelude.{
  ℕ,
  ◌+◌,
  ◌==◌,
  ◌&&◌,
  Bool,
  false,
  not,
  nat_lt,
  List,
  [],
  ◌∷◌,
  if◌then◌else◌,
}

-- how often the mark stands outside quotes in the first row; a quote is open before it, or is not
abbrev pub count : ℕ → Bool → List ℕ → ℕ
count mark quoted [] = 0
count mark quoted (b ∷ more) =
    if b == 34 then count mark (not quoted) more
    else if not quoted && b == 10 then 0
    else if not quoted && b == mark then count mark quoted more + 1
    else count mark quoted more

-- the second where there is more of it
abbrev pub likelier : List ℕ → ℕ → ℕ → ℕ
likelier lines first second = if nat_lt (count first false lines) (count second false lines) then second else first

-- of comma, semicolon and tab
unfoldable pub likeliest : List ℕ → ℕ
likeliest lines = likelier lines (likelier lines 44 59) 9

-- `sep=`, an ASCII character and the end of a line
abbrev pub is_named : ℕ → ℕ → ℕ → ℕ → ℕ → ℕ → Bool
is_named a b c d separator end =
    a == 115 && b == 101 && c == 112 && d == 61 && nat_lt separator 128 && not (separator == 10) && end == 10

-- the separator, and the lines without the row that names it
abbrev pub separated : List ℕ → ℕ × List ℕ
separated (a ∷ b ∷ c ∷ d ∷ separator ∷ end ∷ rest) =
    if is_named a b c d separator end then (separator, rest)
    else (likeliest (a ∷ b ∷ c ∷ d ∷ separator ∷ end ∷ rest), a ∷ b ∷ c ∷ d ∷ separator ∷ end ∷ rest)
separated lines = (likeliest lines, lines)
