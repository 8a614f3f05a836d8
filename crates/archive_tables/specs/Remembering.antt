-- How the writing of the history of a number ends: rules of our own.
use Rattle.std.specs.Prelude.{◌≡◌, ◌⊎◌, ℕ, List, length, Option, Result, Ok, Err}
use Rattle.std.specs.Io.KnownBytes.{Keeps}
use Rattle.archive_state.specs.Content.{Content}
use Rattle.histories.specs.History.{history}
use Rattle.past_values.specs.Recalling.{AreValuesAt, CanBeRecalled}
use Rattle.past_values.specs.declared.reading.PastValue.{PastValue}
use Rattle.record_text.specs.declared.refusal.RefusalKind.{RefusalKind}
use Rattle.record_text.specs.declared.refusal.RefusalKind.TheVariants.{BadStored}
use Rattle.store_tables.specs.Looking.{IsFailure}
use Rattle.store_tables.specs.Rows.{Rows}
use Rattle.archive_tables.specs.Ends.{EndsWriting}

-- the text is the history of a number: of the values of before of its rows, and of as many answers as are kept
abbrev pub IsHistory : ℕ → Rows → Content → Option (List ℕ) → Type 0
IsHistory n rows c text = (values : List PastValue) × AreValuesAt n rows values
    × (text ≡ history (length rows.receipts) c.records n values)

-- memory was refused, the database failed, or a row of values of before of the number cannot be read; and nothing is
-- written
abbrev pub IsUnrecalled : Result (Unit {0}) RefusalKind → Option (List ℕ) → Option (List ℕ) → ℕ → Rows → Type 0
IsUnrecalled (Ok done) before after n rows = ⊥
IsUnrecalled (Err kind) before after n rows =
    (IsFailure kind ⊎ ((kind ≡ BadStored) × ¬ (CanBeRecalled n rows))) × Keeps before after

-- the values could not be read, or the writing of their history ended so
abbrev pub EndsHistory : Result (Unit {0}) RefusalKind → Option (List ℕ) → Option (List ℕ) → ℕ → Rows → Content
    → Type 0
EndsHistory r before after n rows c = IsUnrecalled r before after n rows
    ⊎ ((text : Option (List ℕ)) × IsHistory n rows c text × EndsWriting r before after text)
