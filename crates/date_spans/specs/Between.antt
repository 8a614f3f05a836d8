-- Which events and register entries are between two days: rules of our own.
use Rattle.std.specs.Prelude.{ℕ, ◌≡◌, ◌==◌, ◌↔◌, List, true, Some, ℤ}
use Rattle.std.specs.List.{list_any}
use Rattle.std.specs.FinMap.{get}
use Rattle.gedcom_date.specs.declared.value.Span.{Span}
use Rattle.record_shapes.specs.Lists.{Ascends}
use Rattle.archive_state.specs.Content.{Records}
use Rattle.date_spans.specs.Meeting.{Meets}
use Rattle.date_spans.specs.Spans.{IsSpanOf, date_at}

-- the record of the number is an event or a register entry with a date, whose span meets the days
abbrev pub IsBetween : Records → ℤ → ℤ → ℕ → Type 0
IsBetween m first last n = (span : Span) × IsSpanOf (date_at (get m n)) (Some span) × Meets span first last

abbrev pub IsAmong : ℕ → List ℕ → Type 0
IsAmong n ns = list_any (λ m. m == n) ns ≡ true

-- these are all the numbers of which P holds, ascending
pub record AreAll (P : ℕ → Type 0) (ns : List ℕ) : Type 0 where
  pub ascending : Ascends ns
  pub all : (n : ℕ) → IsAmong n ns ↔ P n
