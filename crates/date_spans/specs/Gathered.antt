-- What the code gathers on its way, number by number. No clause of a public call names these definitions.
use Rattle.std.specs.Prelude.{ℕ, ◌≡◌, ◌⊎◌, ◌==◌, ◌∷◌, ◌++◌, Bool, true, false, List, [], Option, Some, None}
use Rattle.std.specs.List.{list_any}
use Rattle.std.specs.FinMap.{get}
use Rattle.gedcom_date.specs.declared.value.Span.{Span}
use Rattle.record_fields.specs.declared.date.Date.{Date}
use Rattle.archive_state.specs.Content.{Records}
use Rattle.date_spans.specs.Spans.{IsSpan, IsSpanOf, date_at}

-- the number is added where P holds of it
abbrev pub Takes : (ℕ → Type 0) → ℕ → List ℕ → List ℕ → Type 0
Takes P n before after = (P n × (after ≡ before ++ n ∷ [])) ⊎ ((P n → ⊥) × (after ≡ before))

-- what is at each number
abbrev pub Looks : Type 0
Looks = ℕ → Option Span

-- the span of the date is put at the number, where there is a date; all else stays
abbrev pub Adds : Looks → Looks → ℕ → Option Date → Type 0
Adds before after k None = (n : ℕ) → after n ≡ before n
Adds before after k (Some date) =
    (span : Span) × IsSpan date span × (after k ≡ Some span) × ((n : ℕ) → (n ≡ k → ⊥) → after n ≡ before n)

abbrev pub date_if : Bool → Option Date → Option Date
date_if true date = date
date_if false date = None

-- the spans of these numbers, and no others
abbrev pub AreSpansOf : List ℕ → Records → Looks → Type 0
AreSpansOf ns m look = (n : ℕ) → IsSpanOf (date_if (list_any (λ k. k == n) ns) (date_at (get m n))) (look n)
