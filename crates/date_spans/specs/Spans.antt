-- The span of the date of a record: the first and the last day that the date may mean, in days from 1970-01-01, day 0.
use Rattle.std.specs.Prelude.{ℕ, Option, Some, None}
use Rattle.std.specs.FinMap.{get}
use Rattle.calendar_days.specs.Bounds.{IsLeast, IsGreatest}
use Rattle.gedcom_date.specs.Form.{Form}
use Rattle.gedcom_date.specs.Grammar.{Says}
use Rattle.gedcom_date.specs.Days.{IsDayOf}
use Rattle.gedcom_date.specs.declared.value.Span.{Span}
use Rattle.record_fields.specs.declared.date.Date.{Date}
use Rattle.record_kinds.specs.declared.record.Record.{Record}
use Rattle.record_kinds.specs.declared.record.Record.TheVariants as kind
use Rattle.archive_state.specs.Content.{Records}

-- the least and the greatest of the days that the date may mean; None: there is no least, or no greatest
pub record IsSpan (date : Date) (span : Span) : Type 0 where
  pub form : Form
  pub said : Says date.text form
  pub lo : IsLeast (IsDayOf form) span.lo
  pub hi : IsGreatest (IsDayOf form) span.hi

-- the date of an event or of a register entry; no other record has one
abbrev pub date_in : Record → Option Date
date_in (kind.Event e) = e.date
date_in (kind.Entry e) = e.date
date_in _ = None

-- there is a span where there is a date, and it is that of the date
abbrev pub IsSpanOf : Option Date → Option Span → Type 0
IsSpanOf None None = Unit {0}
IsSpanOf (Some date) (Some span) = IsSpan date span
IsSpanOf _ _ = ⊥

-- the date of the record of a number, where one stands there
abbrev pub date_at : Option Record → Option Date
date_at None = None
date_at (Some r) = date_in r

-- at each number whose record has a date is its span, and at no other number is one
abbrev pub AreSpans : Records → (ℕ → Option Span) → Type 0
AreSpans m look = (n : ℕ) → IsSpanOf (date_at (get m n)) (look n)
