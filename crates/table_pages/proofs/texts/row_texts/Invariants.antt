use Rattle.std.proofs.Common.{◌≡◌, drop}
use Rattle.table_pages.specs.Texts.{after, row_texts}
use Rattle.table_pages.proofs.texts.row_texts.Given as goal

abbrev pub invariant-loop-cell : goal.invariant-loop-cell
invariant-loop-cell l = after l.fields.items (row_texts (drop l.cell-index l.cells)) ≡ row_texts l.cells
