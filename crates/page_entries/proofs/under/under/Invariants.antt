use Rattle.std.proofs.Common.{◌≡◌, drop}
use Rattle.page_entries.specs.Under.{under}
use Rattle.page_entries.proofs.under.under.Given as goal

abbrev pub invariant-loop-cell : goal.invariant-loop-cell
invariant-loop-cell l = record {
  place : l.at ≡ l.cell-index;
  found : under l.column l.columns l.at (drop l.cell-index l.cells) ≡ under l.column l.columns 0 l.cells;
}
