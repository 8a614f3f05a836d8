-- Drafts of the nodes of a file, and the numbers that are drawn for them.
use Rattle.std.specs.Prelude.{ℕ, ◌+◌, List, [], ◌∷◌}
use Rattle.stored_lines.specs.Tree.{Tree, Forest, node, none, more}
use Rattle.record_shapes.specs.Reading.{Draft, read, sought}
use Rattle.import_definitions.specs.Numbers as numbers
use Rattle.import_numbers.specs.Settling.{IsPathText}

-- numbers are drawn for what stands at the positions from k on
abbrev pub draw_each : numbers.Places → ℕ → numbers.Drawing → List (Tree Draft) → numbers.Drawing
draw_each w k d [] = d
draw_each w k d (t ∷ ts) = draw_each w (k + 1) (numbers.draw w k 0 (numbers.root_drawn d) t) ts

-- each text by which a place is sought, at a draft or below it, is a path
abbrev mutual
  pub SeeksByPaths : Tree Draft → Type 0
  SeeksByPaths (node (read r path) f) = AllSeekByPaths f
  SeeksByPaths (node (sought path) f) = IsPathText path

  pub AllSeekByPaths : Forest Draft → Type 0
  AllSeekByPaths none = Unit {0}
  AllSeekByPaths (more t f) = SeeksByPaths t × AllSeekByPaths f
