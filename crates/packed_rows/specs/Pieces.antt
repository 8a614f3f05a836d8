-- The pieces of a packed text, which the code meets one after the other.
use Rattle.std.specs.Prelude.{
  ℕ,
  ◌≡◌,
  ◌==◌,
  ◌&&◌,
  Bool,
  false,
  not,
  nat_lt,
  List,
  get_or,
  length,
  Option,
  option_map,
  decimal,
}
use Rattle.std.specs.Char.{is_ascii_digit}
use Rattle.std.specs.List.{list_all, list_any}
use Rattle.stored_lines.specs.Line.{Label}
use Rattle.packed_rows.specs.Packed.{IsTypedLine, on_one_line, text_part, line_text}

-- no byte of a text is this one
abbrev pub Lacks : ℕ → List ℕ → Type 0
Lacks mark bytes = list_any (λ b. b == mark) bytes ≡ false

-- only digits, and no zero before others
abbrev pub is_plain : List ℕ → Bool
is_plain bytes = list_all is_ascii_digit bytes && not (nat_lt 1 (length bytes) && (get_or bytes 0 0 == 48))

-- a line that has these pieces: depth, tag, number and words
pub record HasPieces (d t : List ℕ) (n w : Option (List ℕ)) (l : ℕ × Label) : Type 0 where
  pub typed : IsTypedLine l
  pub depth : d ≡ decimal l.0
  pub tag : t ≡ l.1.tag
  pub number : n ≡ option_map decimal l.1.target
  pub words : w ≡ option_map on_one_line l.1.text

-- a line that has this text
pub record IsLineOf (text : List ℕ) (l : ℕ × Label) : Type 0 where
  pub typed : IsTypedLine l
  pub tell : text ≡ line_text l

-- a line at depth 0 of which a row shows the tag and the number, and a text has the rest
pub record IsFirstLine (t : List ℕ) (n : Option ℕ) (rest : List ℕ) (l : ℕ × Label) : Type 0 where
  pub typed : IsTypedLine l
  pub depth : l.0 ≡ 0
  pub tag : l.1.tag ≡ t
  pub target : l.1.target ≡ n
  pub tell : rest ≡ text_part l.1.text
