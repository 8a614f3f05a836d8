-- The forest that a file of lines reads as.
use Rattle.std.specs.Prelude.{◌≡◌, ◌≤◌, true, not, ℕ, List, [], length}
use Rattle.std.specs.List.{list_any, take_while}
use Rattle.gedcom_line.specs.Reading.{Parts}
use Rattle.gedcom_rules.specs.Pieces.{all_pieces}
use Rattle.gedcom_rules.specs.Rules.{is_trailer}
use Rattle.gedcom_rules.specs.Faults.{max_file, Clean}
use Rattle.gedcom_tree.specs.Forest.{Item, Reads}

-- the lines in front of the trailer
abbrev pub untrailed : List Parts → List Parts
untrailed ls = take_while (λ l. not (is_trailer l)) ls

-- The bytes read as the forest: they are not too many, their pieces are blank or spell lines that break no rule, the
-- trailer is among these (it is the last, since no line stands after it), and those in front of it are the forest's.
pub record ReadsFile (b : List ℕ) (f : List Item) : Type 0 where
  pub size : length b ≤ max_file
  pub lines : List Parts
  pub clean : Clean [] (all_pieces b) lines
  pub ended : list_any is_trailer lines ≡ true
  pub forest : Reads 1 (untrailed lines) f
