use Rattle.std.proofs.Common.{◌≡◌, drop}
use Rattle.table_pages.specs.Cells.{all_rows, read, read_on}
use Rattle.table_pages.specs.declared.cells.Mode.TheVariants.{Start}
use Rattle.table_pages.proofs.cells.read_rows.Given as goal

abbrev pub invariant-loop-byte : goal.invariant-loop-byte
invariant-loop-byte l = record {
  rows : read_on l.separator l.reading.rows.items l.reading.row.items l.reading.cell.items l.reading.mode
      (drop l.byte-index l.lines) ≡ all_rows (read l.separator Start l.lines);
  ends : (read l.separator l.reading.mode (drop l.byte-index l.lines)).ends ≡ (read l.separator Start l.lines).ends;
}
