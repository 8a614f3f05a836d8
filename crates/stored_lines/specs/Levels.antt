-- How deep lines are nested. The levels of a file go from 0 to 99 (GEDCOM 5.5.1, chapter 1, "level"), and a carried
-- line stands below one of level 0.
use Rattle.std.specs.Prelude.{ℕ, ◌+◌, ◌≤◌, max, List}
use Rattle.stored_lines.specs.Tree.{Tree, Forest, node, none, more, forest_of}

module _ {A : Type 0} where
  abbrev mutual
    -- how many levels a tree has: 1 without children
    pub levels : Tree A → ℕ
    levels (node a f) = forest_levels f + 1

    -- the most that a tree of them has
    pub forest_levels : Forest A → ℕ
    forest_levels none = 0
    forest_levels (more t f) = max (levels t) (forest_levels f)

  -- lines that can be carried: those of the levels 1 to 99
  abbrev pub AreShallow : List (Tree A) → Type 0
  AreShallow ts = forest_levels (forest_of ts) ≤ 99

  -- a branch that is read from stored lines: it has room for 99 levels of carried lines below a part's own
  abbrev pub IsLow : Tree A → Type 0
  IsLow t = levels t ≤ 128
