-- The lines of a slip in pieces: one for each side of a change, as its own first line, at depth 0, and deeper ones.
use Rattle.std.specs.Prelude.{ℕ, ◌+◌, ◌≢◌, ◌==◌, ◌&&◌, cond, Bool, true, false, List, [], ◌∷◌, map, Option, Some, None}
use Rattle.std.specs.List.{flat_map, position_or_len}
use Rattle.std.proofs.Common.{drop}
use Rattle.std.proofs.Math.Bool.{beq}
use Rattle.stored_lines.specs.Line.{Label}
use Rattle.record_kinds.specs.declared.record.Record.{Record}
use Rattle.records.specs.Stored.{stored}
use Rattle.records.specs.Shallow.{IsShallow}
use Rattle.record_shapes.specs.Lists.{EachOf}
use Rattle.archive_state.specs.declared.slip.Change.{Change}
use Rattle.store_rows.specs.Meaning.{side_lines, change_lines, IsShallowOption}
use Rattle.store_rows.specs.declared.sides.Side.{Side}

-- a line of a slip: whether it is of a new record, of which number, and what is stored
abbrev pub SideLine : Type 0
SideLine = Bool × (ℕ × (ℕ × Label))

-- the lines of rows, all of one slip
abbrev pub side_lines_in : List (ℕ × SideLine) → List SideLine
side_lines_in = map (λ r. r.1)

-- whether a line begins a side
abbrev pub begins_side : SideLine → Bool
begins_side l = l.1.1.0 == 0

-- how many lines the first side has: its own first line, and those before the next that begins one
abbrev pub first_length : List SideLine → ℕ
first_length ls = position_or_len begins_side (drop 1 ls) + 1

-- whether a line is of a side and number
abbrev pub is_of : Bool → ℕ → SideLine → Bool
is_of is_new n l = beq l.0 is_new && (l.1.0 == n)

-- the lines of a side
abbrev pub lines_of_side : Side → List SideLine
lines_of_side s = side_lines s.is_new s.number (stored s.«record»)

abbrev pub side : Bool → ℕ → Record → Side
side is_new n r = record { is_new = is_new; number = n; «record» = r }

-- the sides of a change: the old one, and then the new one where there is one
abbrev pub new_sides : ℕ → Option Record → List Side
new_sides n None = []
new_sides n (Some r) = side true n r ∷ []

abbrev pub sides_of_change : Change → List Side
sides_of_change c = side false c.number c.old ∷ new_sides c.number c.new

-- the new record of a number, where a new side of it comes first, and the sides after that
abbrev pub begins_new : ℕ → List Side → Bool
begins_new n [] = false
begins_new n (s ∷ ss) = s.is_new && (s.number == n)

abbrev pub first_new : ℕ → List Side → Option Record
first_new n [] = None
first_new n (s ∷ ss) = cond (begins_new n (s ∷ ss)) (Some s.«record») None

abbrev pub after_new : ℕ → List Side → List Side
after_new n [] = []
after_new n (s ∷ ss) = cond (begins_new n (s ∷ ss)) ss (s ∷ ss)

-- lines that are those of no side, of no sides and of no changes whose records are shallow; sides that are those of no
-- changes
abbrev pub NoSide : List SideLine → Type 0
NoSide ls = (s : Side) → IsShallow s.«record» → ls ≢ lines_of_side s

abbrev pub NoSides : List SideLine → Type 0
NoSides ls = (ss : List Side) → EachOf (λ (s : Side). IsShallow s.«record») ss → ls ≢ flat_map lines_of_side ss

abbrev pub NoChanges : List SideLine → Type 0
NoChanges ls = (cs : List Change) → EachOf (λ (c : Change). IsShallow c.old × IsShallowOption c.new) cs
    → ls ≢ flat_map change_lines cs

abbrev pub NoPairs : List Side → Type 0
NoPairs ss = (cs : List Change) → ss ≢ flat_map sides_of_change cs
