-- What is known of a line that is no line of the grammar: its level, and its characters where its file names another
-- character set.
use Rattle.std.specs.Prelude.{
  ℕ,
  ◌+◌,
  ◌-◌,
  ◌*◌,
  Bool,
  false,
  not,
  ◌&&◌,
  if◌then◌else◌,
  List,
  [],
  ◌∷◌,
  Option,
  Some,
  None,
  encode_utf8_all,
}
use Rattle.std.specs.Str.{is_utf8}
use Rattle.gedcom_line.specs.Words.{is_white, is_digit, is_space}
use Rattle.gedcom_line.specs.Reading.{skip, ◌>>=◌}

abbrev pub digit_at : ℕ → Option ℕ
digit_at b = if is_digit b then Some (b - 48) else None

abbrev pub begins_with_space : List ℕ → Bool
begins_with_space [] = false
begins_with_space (b ∷ bs) = is_space b

-- one or two digits and a space
abbrev pub level_in : List ℕ → Option ℕ
level_in [] = None
level_in (a ∷ []) = None
level_in (a ∷ b ∷ more) =
    digit_at a >>= λ tens.
    if is_space b then Some tens
    else (digit_at b >>= λ ones. if begins_with_space more then Some (10 * tens + ones) else None)

-- the level that a line begins with, after white space
unfoldable pub level_of : List ℕ → Option ℕ
level_of p = level_in (skip is_white p)

-- A line as it is read: as it stands; but where a line before it named another character set, one that is not UTF-8
-- is read as if each of its bytes were a character, U+0000 to U+00FF.
abbrev pub as_read : Bool → List ℕ → List ℕ
as_read other p = if other && not (is_utf8 p) then encode_utf8_all p else p
