-- The values that a number had before, as they are read of their rows. Rules of our own.
use Rattle.std.specs.Prelude.{ℕ, ℤ, ◌≡◌, List, length, map}
use Rattle.std.specs.List.{AllByRecursion}
use Rattle.earlier_values.specs.Earlier.{IsPastOf}
use Rattle.packed_rows.specs.Packed.{HaveText}
use Rattle.record_kinds.specs.declared.record.Record.{Record}
use Rattle.records.specs.Stored.{stored}
use Rattle.store_tables.specs.Conversion.{EachWith}
use Rattle.store_tables.specs.Keyed.{pasts_at}
use Rattle.store_tables.specs.Reading.{IsTypedPast, read_past}
use Rattle.store_tables.specs.Rows.{Rows}
use Rattle.past_values.specs.declared.reading.PastValue.{PastValue}

-- what is read of a row: its key, its token, and its text
abbrev pub ReadPast : Type 0
ReadPast = ℤ × (List ℕ × List ℕ)

-- the value is that of the row: under its key and token, and the text is that of the record
abbrev pub IsValueOf : ReadPast → PastValue → Type 0
IsValueOf row value = (value.id ≡ row.0) × (value.token ≡ row.1.0) × HaveText row.1.1 (stored value.«record»)

-- the text of the row is that of a record
abbrev pub HasRecord : ReadPast → Type 0
HasRecord row = (r : Record) × IsPastOf r row.1.1

-- all rows of values of before of a number can be read
abbrev pub CanBeRecalled : ℕ → Rows → Type 0
CanBeRecalled n rows =
    AllByRecursion IsTypedPast (pasts_at n rows) × AllByRecursion HasRecord (map read_past (pasts_at n rows))

-- these are the values of before of a number, one for each row, in their order
abbrev pub AreValuesAt : ℕ → Rows → List PastValue → Type 0
AreValuesAt n rows values = EachWith IsValueOf (map read_past (pasts_at n rows)) values

-- the same, and so many answers are kept
abbrev pub IsRecalled : ℕ → Rows → ℕ → List PastValue → Type 0
IsRecalled n rows answers values = AreValuesAt n rows values × (answers ≡ length rows.receipts)
