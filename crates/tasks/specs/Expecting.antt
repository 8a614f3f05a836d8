-- Rows that are applied as long as each is answered as is expected: how that ends, and what is said of it. Rules of our
-- own.
use Rattle.std.specs.Prelude.{◌≡◌, ◌++◌, ◌∷◌, [], ℕ, List, Option, Result, Ok, Err, Some, codes}
use Rattle.std.specs.Fmt.{decimal}
use Rattle.expected_rows.specs.declared.expecting.Ending.{Ending}
use Rattle.expected_rows.specs.declared.expecting.Ending.TheVariants.{All, Refused, Unexpected}
use Rattle.record_text.specs.declared.refusal.RefusalKind.{RefusalKind}
use Rattle.record_text.specs.declared.refusal.RefusalKind.TheVariants.{BadRow}
use Rattle.record_text.specs.declared.refusal.RefusalText.{RefusalText}
use Rattle.record_text.specs.declared.refusal.Unit.TheVariants as unit
use Rattle.tasks.specs.Faults.{IsReported}
use Rattle.tasks.specs.Status.{Outcome, placeless_text}

-- what to do
abbrev pub hint : List ℕ
hint = codes "  the rows came in another order, or the copy is another: it was not done" ++ 10 ∷ []

-- the line of the row of this number, `parish: 96 NotAsExpected at row <n>`
abbrev pub unexpected_line : ℕ → List ℕ
unexpected_line row = codes "parish: 96 NotAsExpected at row " ++ (decimal row ++ 10 ∷ [])

-- that, and what to do
abbrev pub unexpected_text : ℕ → List ℕ
unexpected_text row = unexpected_line row ++ hint

-- the outcome of rows that ended before the row of this number, of which that is said already
abbrev pub unexpected : ℕ → RefusalText
unexpected row = record { refusal = record { kind = BadRow; at = Some row }; unit = unit.Row }

-- rows ended so, or early
abbrev pub Expecting : Type 0
Expecting = Result Ending RefusalKind

abbrev pub as_expected : Expecting → Outcome
as_expected (Ok All) = Ok tt
as_expected (Ok (Refused e)) = Err (record { refusal = e; unit = unit.Row })
as_expected (Ok (Unexpected row)) = Err (unexpected row)
as_expected (Err kind) = Err (placeless_text kind)

-- what is said at the end: which row would be answered otherwise
abbrev pub SaysUnexpected : {F : Type 0} → (F → Option (List ℕ)) → (F → ℕ) → Expecting → F → F → Type 0
SaysUnexpected said failed (Ok (Unexpected row)) before after =
    IsReported said failed before after (unexpected_text row)
SaysUnexpected said failed _ before after = after ≡ before
