-- The head of a line: level, cross reference and tag (GEDCOM 5.5.1, chapter 1). It is read of units of any set, since
-- it is ASCII but for the cross reference.
use Rattle.std.specs.Prelude.{
  ℕ,
  ◌+◌,
  ◌-◌,
  ◌*◌,
  ◌==◌,
  ◌&&◌,
  ◌||◌,
  Bool,
  true,
  false,
  not,
  List,
  [],
  ◌∷◌,
  Option,
  Some,
  None,
  drop,
  length,
  nat_le,
  take,
  if◌then◌else◌,
}
use Rattle.std.specs.List.{list_all, prefix_len}
use Rattle.std.specs.Str.{bytes_eq}
use Rattle.character_sets.specs.declared.heads.KnownTag.{KnownTag}
use Rattle.character_sets.specs.declared.heads.KnownTag.TheVariants.{Head, Char, Conc, Cont, Other}
use Rattle.character_sets.specs.declared.heads.LineHead.{LineHead}
use Rattle.character_sets.specs.declared.heads.Class.{Class}
use Rattle.character_sets.specs.declared.heads.Class.TheVariants.{White, Space, Tab, Word, NotAt}
use Rattle.character_sets.specs.Lines.{is_white}

abbrev pub is_digit : ℕ → Bool
is_digit unit = nat_le 48 unit && nat_le unit 57

-- an ASCII letter, a digit or an underscore
abbrev pub is_word : ℕ → Bool
is_word unit = is_digit unit || (nat_le 65 unit && nat_le unit 90) || unit == 95 || (nat_le 97 unit && nat_le unit 122)

abbrev pub in_class : Class → ℕ → Bool
in_class White unit = is_white unit
in_class Space unit = unit == 32
in_class Tab unit = unit == 9
in_class Word unit = is_word unit
in_class NotAt unit = not (unit == 64)

-- what comes after the units of a class
abbrev pub after : Class → List ℕ → List ℕ
after class units = drop (prefix_len (in_class class) units) units

-- a level of one or two digits, and what comes after it
abbrev pub level_of : List ℕ → Option (ℕ × List ℕ)
level_of [] = None
level_of (a ∷ []) = if is_digit a then Some (a - 48, []) else None
level_of (a ∷ b ∷ more) = if is_digit a then (if is_digit b then Some (10 * (a - 48) + (b - 48), more)
    else Some (a - 48, b ∷ more)) else None

-- what comes after one space or more
abbrev pub spaced : List ℕ → Option (List ℕ)
spaced [] = None
spaced (unit ∷ units) = if unit == 32 then Some (after Space units) else None

-- what comes after the second @ and spaces
abbrev pub closed : List ℕ → Option (List ℕ)
closed [] = None
closed (at ∷ units) = spaced units

-- what comes after a cross reference, if there is one
abbrev pub past_name : List ℕ → Option (List ℕ)
past_name [] = Some []
past_name (unit ∷ units) = if unit == 64 then closed (after NotAt units) else Some (unit ∷ units)

-- the tags that matter here; a few programs write HEADER and CHARACTER
abbrev pub tag_of : List ℕ → KnownTag
tag_of word = if bytes_eq word (72 ∷ 69 ∷ 65 ∷ 68 ∷ []) || bytes_eq word (72 ∷ 69 ∷ 65 ∷ 68 ∷ 69 ∷ 82 ∷ []) then Head
    else if bytes_eq word (67 ∷ 72 ∷ 65 ∷ 82 ∷ [])
    || bytes_eq word (67 ∷ 72 ∷ 65 ∷ 82 ∷ 65 ∷ 67 ∷ 84 ∷ 69 ∷ 82 ∷ []) then Char
    else if bytes_eq word (67 ∷ 79 ∷ 78 ∷ 67 ∷ []) then Conc
    else if bytes_eq word (67 ∷ 79 ∷ 78 ∷ 84 ∷ []) then Cont else Other

-- the head of a line of so many units, of which these are left after the cross reference: a tag, and after it a space
-- and the value, or no more than tabs
abbrev pub value_of : List ℕ → Option (Bool × List ℕ)
value_of [] = Some (false, [])
value_of (unit ∷ units) = if unit == 32 then Some (true, units)
    else if list_all (in_class Tab) (unit ∷ units) then Some (false, []) else None

-- the head of a line of so many units, of which these are left before the tag
abbrev pub tagged : ℕ → ℕ → List ℕ → Option LineHead
tagged level total units =
    let n = prefix_len is_word units in
    if n == 0 then None else elim (value_of (drop n units)) [
      | None ↦ None
      | Some v ↦ Some record {
        level = level;
        tag = tag_of (take n units);
        tag_at = total - length units;
        value_at = total - length v.1;
        is_parted = v.0;
      }
    ]

abbrev pub named : ℕ → ℕ → Option (List ℕ) → Option LineHead
named level total None = None
named level total (Some units) = tagged level total units

abbrev pub parted : ℕ → ℕ → Option (List ℕ) → Option LineHead
parted level total None = None
parted level total (Some units) = named level total (past_name units)

abbrev pub leveled : ℕ → Option (ℕ × List ℕ) → Option LineHead
leveled total None = None
leveled total (Some l) = parted l.0 total (spaced l.1)

-- what a line begins with; None: it has no level, no tag, or another character after its tag
unfoldable pub head_of : List ℕ → Option LineHead
head_of line = leveled (length line) (level_of (after White line))

-- it has this level and this tag
abbrev pub is_head : ℕ → (KnownTag → Bool) → Option LineHead → Bool
is_head level test None = false
is_head level test (Some h) = h.level == level && test h.tag
