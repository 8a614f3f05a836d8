-- What a line that goes on with another one (CONC) was cut at: units at the end of a value that belong to a character
-- of the next line go to the beginning of that line's value. No line is joined with another.
use Rattle.std.specs.Prelude.{
  ℕ,
  ◌+◌,
  ◌-◌,
  ◌==◌,
  ◌&&◌,
  Bool,
  true,
  false,
  List,
  [],
  ◌∷◌,
  ◌++◌,
  Option,
  Some,
  None,
  drop,
  length,
  take,
  if◌then◌else◌,
}
use Rattle.character_sets.specs.declared.set.CharacterSet.{CharacterSet}
use Rattle.character_sets.specs.Cuts.{cut_units}
use Rattle.character_sets.specs.declared.heads.KnownTag.{KnownTag}
use Rattle.character_sets.specs.declared.heads.KnownTag.TheVariants.{Conc, Cont}
use Rattle.character_sets.specs.declared.heads.LineHead.{LineHead}
use Rattle.character_sets.specs.Lines.{Line, is_blank}
use Rattle.character_sets.specs.Heads.{head_of}

abbrev pub is_conc : KnownTag → Bool
is_conc Conc = true
is_conc _ = false

-- CONC and CONT
abbrev pub is_continuation : KnownTag → Bool
is_continuation Conc = true
is_continuation Cont = true
is_continuation _ = false

-- the second line goes on with the value of the first
abbrev pub goes_on : LineHead → LineHead → Bool
goes_on h k = is_conc k.tag && k.level == (if is_continuation h.tag then h.level else h.level + 1)

-- the next line that is not blank
abbrev pub next_body : List Line → List ℕ
next_body [] = []
next_body (l ∷ ls) = if is_blank l.body then next_body ls else l.body

-- a line with the units that belong to the beginning of its value
abbrev pub joined_at : List ℕ → List ℕ → Option LineHead → List ℕ
joined_at carry body None = body
joined_at carry body (Some h) =
    take h.value_at body ++ (if h.is_parted then [] else 32 ∷ []) ++ carry ++ drop h.value_at body

abbrev pub joined : List ℕ → List ℕ → List ℕ
joined [] body = body
joined (c ∷ cs) body = joined_at (c ∷ cs) body (head_of body)

-- how many units at the end of a value go to that of the next line
abbrev pub cut_between : CharacterSet → List ℕ → List ℕ → List ℕ → Option LineHead → Option LineHead → ℕ
cut_between set carry body next (Some h) (Some k) =
    if goes_on h k then cut_units set (carry ++ drop h.value_at body) (drop k.value_at next) else 0
cut_between set carry body next (Some h) None = 0
cut_between set carry body next None k = 0

unfoldable pub cut_at : CharacterSet → List ℕ → List ℕ → List ℕ → ℕ
cut_at set carry body next = cut_between set carry body next (head_of body) (head_of next)

-- a line without its last units
abbrev pub kept : ℕ → List ℕ → List ℕ
kept n whole = take (length whole - n) whole

abbrev pub last : ℕ → List ℕ → List ℕ
last n whole = drop (length whole - n) whole

-- the lines of a file in a set, of which the first has these units in front of its value
abbrev pub moved : CharacterSet → List ℕ → List Line → List Line
moved set carry [] = []
moved set carry (l ∷ ls) = if is_blank l.body then l ∷ moved set carry ls
    else record { body = kept (cut_at set carry l.body (next_body ls)) (joined carry l.body); ending = l.ending }
    ∷ moved set (last (cut_at set carry l.body (next_body ls)) (joined carry l.body)) ls

-- the units in front of the value of the line after the first of these
abbrev pub left_over : CharacterSet → List ℕ → List Line → List ℕ
left_over set carry [] = carry
left_over set carry (l ∷ ls) =
    if is_blank l.body then carry else last (cut_at set carry l.body (next_body ls)) (joined carry l.body)
