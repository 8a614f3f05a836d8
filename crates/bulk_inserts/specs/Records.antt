-- Rows of `record` that are inserted, each after those before it. Rules of our own.
use Rattle.std.specs.Prelude.{ℕ, List, [], ◌∷◌}
use Rattle.store_tables.specs.Rows.{Rows, with_record_row}

abbrev pub with_records : ℕ → List (ℕ × List ℕ) → Rows → Rows
with_records batch [] rows = rows
with_records batch (r ∷ rs) rows = with_records batch rs (with_record_row r.0 r.1 batch rows)
