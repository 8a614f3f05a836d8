-- When the records of an archive have their spans among some rows: rules of our own.
use Rattle.std.specs.Prelude.{ℕ, List, Option, Some, None}
use Rattle.std.specs.FinMap.{get}
use Rattle.gedcom_date.specs.declared.value.Span.{Span}
use Rattle.archive_state.specs.Content.{Content}
use Rattle.store_tables.specs.Rows.{SpanRow}
use Rattle.store_rows.specs.Spans.{IsSpanned, span_at}

-- the record of the number, where there is one, has a span where it has a date, and that of its date
abbrev pub HasOwn : Content → (ℕ → Option Span) → ℕ → Type 0
HasOwn c look n = IsSpanned (get c.records n) (look n)

-- what these rows have of a number, of two rows the first one
abbrev pub spans_in : List SpanRow → ℕ → Option Span
spans_in spans n = span_at n spans

-- each record has its own of these; those of numbers without a record are not looked at
abbrev pub HaveSpans : List SpanRow → Content → Type 0
HaveSpans spans c = (n : ℕ) → HasOwn c (spans_in spans) n

-- ---- as the code gathers them
-- the first of two that is there
abbrev pub first_there : {X : Type 0} → Option X → Option X → Option X
first_there None other = other
first_there (Some x) other = Some x
