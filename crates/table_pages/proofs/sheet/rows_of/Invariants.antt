use Rattle.std.proofs.Common.{◌≡◌, ◌+◌, drop}
use Rattle.table_pages.specs.Sheets.{rows_from, with_rows}
use Rattle.table_pages.proofs.sheet.rows_of.Given as goal

abbrev pub invariant-loop-row : goal.invariant-loop-row
invariant-loop-row l = record {
  so_far : with_rows l.shown.items (rows_from l.number (drop l.row-index l.rows)) ≡ rows_from 2 l.rows;
  counted : l.number ≡ l.row-index + 2;
}
