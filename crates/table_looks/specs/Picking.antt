-- Which rows of spans are found, row by row. No clause of a public call names these definitions.
use Rattle.std.specs.Prelude.{ℕ, ℤ, ◌≡◌, true, List, Some, map}
use Rattle.gedcom_date.specs.declared.value.Span.{Span}
use Rattle.date_spans.specs.Meeting.{Meets}
use Rattle.store_tables.specs.Rows.{Rows, SpanRow}
use Rattle.store_rows.specs.Meaning.{has_record}
use Rattle.store_rows.specs.Spans.{span_at}

-- the days that a row has
abbrev pub days_of : SpanRow → Span
days_of s = record { lo = s.lo; hi = s.hi }

-- they meet these, and the row's number has a record
abbrev pub IsFoundRow : Rows → ℤ → ℤ → SpanRow → Type 0
IsFoundRow rows first last s = Meets (days_of s) first last × (has_record s.no rows ≡ true)

-- so do the days that the rows have of a number
abbrev pub IsFound : Rows → ℤ → ℤ → ℕ → Type 0
IsFound rows first last n = (span : Span) × (span_at n rows.spans ≡ Some span) × Meets span first last
    × (has_record n rows ≡ true)

abbrev pub numbers_of : List SpanRow → List ℕ
numbers_of = map (λ (s : SpanRow). s.no)
