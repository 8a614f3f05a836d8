-- A test of each line that a record carries, in all its parts.
use Rattle.std.specs.Prelude.{◌&&◌, Bool, true}
use Rattle.std.specs.List.{list_all}
use Rattle.stored_lines.specs.Tree.{Tree, Forest, node, none, more}
use Rattle.stored_lines.specs.Line.{Line, Lines}

module _ (fits : Line → Bool) where
  abbrev mutual
    -- a line and each below it
    pub line_all : Tree Line → Bool
    line_all (node l f) = fits l && forest_all f

    pub forest_all : Forest Line → Bool
    forest_all none = true
    forest_all (more t f) = line_all t && forest_all f

  -- lines, and each below them
  abbrev pub lines_all : Lines → Bool
  lines_all ts = list_all line_all ts
