-- How faulty lines are displayed: docs/FORMATS.md, "The faults of a file".
use Rattle.std.specs.Prelude.{
  ℕ,
  zero,
  suc,
  ◌+◌,
  ◌-◌,
  ◌/◌,
  ◌%◌,
  Bool,
  false,
  ◌&&◌,
  ◌||◌,
  ◌==◌,
  nat_lt,
  nat_le,
  if◌then◌else◌,
  List,
  [],
  ◌∷◌,
  ◌++◌,
  length,
  take,
  drop,
  slice_index,
  codes,
}
use Rattle.std.specs.Fmt.{decimal}
use Rattle.std.specs.List.{flat_map}
use Rattle.std.specs.Str.{is_utf8}
use Rattle.gedcom_rules.specs.Refusals.{number_of, name_of}
use Rattle.gedcom_rules.specs.declared.fault.TreeKind.{TreeKind}
use Rattle.file_faults.specs.Faults.{Faulty}

-- the first so many bytes are UTF-8
abbrev pub is_front : ℕ → List ℕ → Bool
is_front n b = nat_le n (length b) && is_utf8 (take n b)

-- how many bytes the character has that bytes begin with (RFC 3629: at most four); 0: they begin with none
unfoldable pub front_len : List ℕ → ℕ
front_len b = if is_front 1 b then 1 else if is_front 2 b then 2 else if is_front 3 b then 3 else if is_front 4 b then 4
    else 0

-- U+0000 to U+001F and U+007F to U+009F
abbrev pub is_control : List ℕ → Bool
is_control [] = false
is_control (a ∷ []) = nat_lt a 32 || a == 127
is_control (a ∷ b ∷ []) = a == 194 && nat_lt b 160
is_control (a ∷ b ∷ c ∷ more) = false

-- a character: a space in the place of one that controls
abbrev pub character : List ℕ → List ℕ
character c = if is_control c then 32 ∷ [] else c

-- 0 to 9 and A to F
abbrev pub hex_digit : ℕ → ℕ
hex_digit n = if nat_lt n 10 then 48 + n else 55 + n

-- a byte that begins no character: `\xE9`
abbrev pub stray : ℕ → List ℕ
stray b = 92 ∷ 120 ∷ hex_digit (b / 16) ∷ hex_digit (b % 16) ∷ []

-- what bytes begin with, as it is displayed, and what follows it
abbrev pub first_shown : List ℕ → List ℕ
first_shown b = if front_len b == 0 then stray (slice_index b 0) else character (take (front_len b) b)

abbrev pub past_first : List ℕ → List ℕ
past_first b = if front_len b == 0 then drop 1 b else drop (front_len b) b

-- so many characters of bytes, as they are displayed
unfoldable pub shown : ℕ → List ℕ → List ℕ
shown zero b = []
shown (suc n) [] = []
shown (suc n) (b ∷ bs) = first_shown (b ∷ bs) ++ shown n (past_first (b ∷ bs))

-- the most characters of a line that are displayed
abbrev pub max_shown : ℕ
max_shown = 60

-- the number of the line, and the number and the name of what is wrong with it
abbrev pub heading : ℕ → TreeKind → List ℕ
heading line kind = codes "line " ++ (decimal line ++ (codes ": " ++ (decimal (number_of kind) ++ (codes " "
    ++ (name_of kind ++ codes ": ")))))

-- the line of a faulty line
unfoldable pub fault_line : Faulty → List ℕ
fault_line f = heading f.line f.kind ++ (shown max_shown f.text ++ 10 ∷ [])

-- the most faulty lines that are listed
abbrev pub max_listed : ℕ
max_listed = 1000

unfoldable pub listed : List Faulty → List ℕ
listed fs = flat_map fault_line (take max_listed fs)

-- how many more there are
abbrev pub more_line : ℕ → List ℕ
more_line n = if nat_lt max_listed n then codes "and " ++ (decimal (n - max_listed) ++ codes " more\n") else []

-- the whole list
unfoldable pub listing : List Faulty → List ℕ
listing fs = listed fs ++ more_line (length fs)
