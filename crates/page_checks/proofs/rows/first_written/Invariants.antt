use Rattle.std.proofs.Common.{◌≡◌, drop}
use Rattle.page_checks.specs.Rows.{beyond}
use Rattle.page_checks.proofs.rows.first_written.Given as goal

abbrev pub invariant-loop-cell : goal.invariant-loop-cell
invariant-loop-cell l = beyond (drop l.cell-index l.cells) ≡ beyond l.cells
