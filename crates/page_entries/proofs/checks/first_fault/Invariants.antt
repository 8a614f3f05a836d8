use Rattle.std.proofs.Common.{◌≡◌, drop}
use Rattle.page_entries.specs.Checks.{first_fault}
use Rattle.page_entries.proofs.checks.first_fault.Given as goal

abbrev pub invariant-loop-cell : goal.invariant-loop-cell
invariant-loop-cell l = record {
  place : l.at ≡ l.cell-index;
  fault : first_fault l.check l.columns l.at (drop l.cell-index l.cells) ≡ first_fault l.check l.columns 0 l.cells;
}
