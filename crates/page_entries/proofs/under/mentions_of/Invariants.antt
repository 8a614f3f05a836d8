use Rattle.std.proofs.Common.{◌≡◌, ◌++◌, drop}
use Rattle.page_entries.specs.Under.{mentions}
use Rattle.page_entries.proofs.under.mentions_of.Given as goal

abbrev pub invariant-loop-cell : goal.invariant-loop-cell
invariant-loop-cell l = record {
  place : l.at ≡ l.cell-index;
  so_far : l.mentions.items ++ mentions l.columns l.at (drop l.cell-index l.cells) ≡ mentions l.columns 0 l.cells;
}
