-- The rows of one batch, as they are read, and to what rows belong.
use Rattle.std.specs.Prelude.{ℕ, ◌≡◌, ◌==◌, ◌+◌, true, List, length, map, filter}
use Rattle.std.specs.List.{AllByRecursion, list_any}
use Rattle.store_tables.specs.Rows.{Rows, BatchRow, RecordRow, LineRow, PackRow, SpanRow, SoughtRow}

-- the numbers of a batch, in order
abbrev pub numbers_in : ℕ → Rows → List ℕ
numbers_in batch rows = map (λ (r : RecordRow). r.no) (filter (λ (r : RecordRow). r.batch == batch) rows.records)

-- how many rows with lines a number has
abbrev pub count_of_lines : ℕ → Rows → ℕ
count_of_lines n rows = length (filter (λ (l : LineRow). l.no == n) rows.lines)
    + length (filter (λ (p : PackRow). p.no == n) rows.packs)

-- each line, all lines in one row, each span and what each number is looked for by are of a number that has a row in
-- `record`, and each such row is of a batch that is there
pub record AreOwned (rows : Rows) : Type 0 where
  pub lines : AllByRecursion (λ (l : LineRow). list_any (λ (r : RecordRow). r.no == l.no) rows.records ≡ true)
      rows.lines
  pub packs : AllByRecursion (λ (p : PackRow). list_any (λ (r : RecordRow). r.no == p.no) rows.records ≡ true)
      rows.packs
  pub records : AllByRecursion (λ (r : RecordRow). list_any (λ (b : BatchRow). b.no == r.batch) rows.batches ≡ true)
      rows.records
  pub spans : AllByRecursion (λ (s : SpanRow). list_any (λ (r : RecordRow). r.no == s.no) rows.records ≡ true)
      rows.spans
  pub soughts : AllByRecursion (λ (s : SoughtRow). list_any (λ (r : RecordRow). r.no == s.no) rows.records ≡ true)
      rows.soughts
