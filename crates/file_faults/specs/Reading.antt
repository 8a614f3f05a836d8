-- Reading on after a faulty line: what is wrong with each line first, and what it counts as for those after it.
use Rattle.std.specs.Prelude.{
  ℕ,
  ◌+◌,
  ◌-◌,
  Bool,
  true,
  false,
  ◌&&◌,
  ◌||◌,
  ◌==◌,
  nat_lt,
  nat_le,
  if◌then◌else◌,
  List,
  [],
  length,
  Option,
  Some,
  None,
  Result,
  Ok,
  Err,
  codes,
}
use Rattle.gedcom_line.specs.Reading.{Parts, reading}
use Rattle.gedcom_line.specs.declared.fault.LineKind.{LineKind}
use Rattle.gedcom_line.specs.declared.fault.LineKind.TheVariants as line
use Rattle.gedcom_rules.specs.declared.fault.TreeKind.{TreeKind}
use Rattle.gedcom_rules.specs.declared.fault.TreeKind.TheVariants.{TooLong, Charset, ContinuationHasChildren}
use Rattle.gedcom_rules.specs.Depth.{depth}
use Rattle.gedcom_rules.specs.Faults.{max_line}
use Rattle.gedcom_rules.specs.Judging.{after, start}
use Rattle.gedcom_rules.specs.Rules.{Progress, first_broken, of_line}
use Rattle.file_faults.specs.Marks.{level_of, as_read}

-- What the lines so far leave: how many they are that are not blank, what those that count leave for judging the next
-- one, and whether one named a character set that is not read.
pub record Course : Type 0 where
  pub number : ℕ
  pub lines : Progress
  pub other : Bool

abbrev pub at_start : Course
at_start = record { number = 0; lines = start; other = false }

-- ---- what is wrong first
abbrev pub fault_read : Progress → Result (Option Parts) LineKind → Option TreeKind
fault_read q (Ok None) = None
fault_read q (Ok (Some l)) = first_broken q l
fault_read q (Err j) = Some (of_line j)

-- None: the piece is blank, or a line that breaks no rule
unfoldable pub fault_of : Course → List ℕ → Option TreeKind
fault_of c p = if nat_lt max_line (length p) then Some TooLong else fault_read c.lines (reading (as_read c.other p))

-- ---- what it counts as
-- a line of a level with a tag, and no more
abbrev pub bare : ℕ → List ℕ → Parts
bare level tag = record { level = level; xref = None; tag = tag; raw = [] }

abbrev pub at_level : ℕ → Parts → Parts
at_level n l = record { level = n; xref = l.xref; tag = l.tag; raw = l.raw }

abbrev pub at_most : ℕ → ℕ → ℕ
at_most n most = if nat_le n most then n else most

-- no line counts as deeper than one below the line before it
abbrev pub behind : Progress → Parts → Progress
behind q l = after q (at_level (at_most l.level (depth q)) l)

-- and where the first line is deeper than level 0, a header is taken to stand before it
abbrev pub placed : Progress → Parts → Progress
placed q l = if depth q == 0 && nat_lt 0 l.level then behind (behind q (bare 0 (codes "HEAD"))) l else behind q l

-- a line below a continuation counts at the level of that; any other as it stands
abbrev pub counted : TreeKind → Parts → Parts
counted ContinuationHasChildren l = at_level (l.level - 1) l
counted _ l = l

abbrev pub lines_judged : Progress → Parts → Option TreeKind → Progress
lines_judged q l None = after q l
lines_judged q l (Some k) = placed q (counted k l)

-- what is no line counts with its level, where it has one, and no more
abbrev pub lines_passed : Progress → Option ℕ → Progress
lines_passed q None = q
lines_passed q (Some n) = placed q (bare n [])

-- and not even with that where it is refused for its level
abbrev pub kept_level : LineKind → Option ℕ → Option ℕ
kept_level line.BadLevel n = None
kept_level line.NotUtf8 n = n
kept_level line.BadXref n = n
kept_level line.BadTag n = n
kept_level line.Nul n = n

abbrev pub is_charset : TreeKind → Bool
is_charset Charset = true
is_charset _ = false

-- the line names a character set that is not read
abbrev pub names_other : Option TreeKind → Bool
names_other None = false
names_other (Some k) = is_charset k

abbrev pub passed : Course → Option ℕ → Course
passed c n = record { number = c.number + 1; lines = lines_passed c.lines n; other = c.other }

abbrev pub judged : Course → Parts → Option TreeKind → Course
judged c l k = record { number = c.number + 1; lines = lines_judged c.lines l k; other = c.other || names_other k }

abbrev pub left_read : Course → Option ℕ → Result (Option Parts) LineKind → Course
left_read c n (Ok None) = c
left_read c n (Ok (Some l)) = judged c l (first_broken c.lines l)
left_read c n (Err j) = passed c (kept_level j n)

unfoldable pub left_by : Course → List ℕ → Course
left_by c p = if nat_lt max_line (length p) then passed c (level_of p) else left_read c (level_of p)
    (reading (as_read c.other p))
