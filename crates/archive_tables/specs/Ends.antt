-- How the writing of a text of an archive ends: rules of our own.
use Rattle.std.specs.Prelude.{◌≡◌, ◌⊎◌, ℕ, List, Option, Some, None, Result, Ok, Err}
use Rattle.std.specs.Io.KnownBytes.{Appends, Keeps}
use Rattle.sqlite.specs.State.{State, HasCleanDisk}
use Rattle.archive_state.specs.Content.{Content}
use Rattle.devices.specs.Devices.{AppendsBeginning}
use Rattle.record_text.specs.declared.refusal.RefusalKind.{RefusalKind}
use Rattle.record_text.specs.declared.refusal.RefusalKind.TheVariants.{NoSuch, OutOfMemory, WriteFailed}
use Rattle.store.specs.Viewing.{OnReadable}
use Rattle.store_tables.specs.Calls.{LeavesOnly}
use Rattle.store_tables.specs.Looking.{IsFailure}
use Rattle.store_tables.specs.Rows.{Rows}

-- P of the rows of an archive and of what it holds, sound or not, where each record can be looked for; and a crash
-- leaves it
abbrev pub OnRows : State → State → (Rows → Content → Type 0) → Type 0
OnRows old new P = HasCleanDisk new → HasCleanDisk old × OnReadable old (λ rows c. P rows c × LeavesOnly new rows)

-- the same of what it holds alone
abbrev pub OnRead : State → State → (Content → Type 0) → Type 0
OnRead old new P = OnRows old new (λ _ c. P c)

-- there is a text, and the writer has got all of it
abbrev pub IsWhole : Option (List ℕ) → Option (List ℕ) → Option (List ℕ) → Type 0
IsWhole before after (Some text) = Appends before after text
IsWhole before after None = ⊥

-- why it has not: the writer, or memory for it, has failed after a beginning; or there is no text, since no record has
-- the number, and nothing is written
abbrev pub IsCut : RefusalKind → Option (List ℕ) → Option (List ℕ) → Option (List ℕ) → Type 0
IsCut kind before after (Some text) = ((kind ≡ WriteFailed) ⊎ (kind ≡ OutOfMemory))
    × AppendsBeginning before after text
IsCut kind before after None = (kind ≡ NoSuch) × Keeps before after

-- how the writing of a text ended, where there is one: it is written whole; or memory was refused or the database
-- failed, and nothing is written; or it is cut
abbrev pub EndsWriting : Result (Unit {0}) RefusalKind → Option (List ℕ) → Option (List ℕ) → Option (List ℕ) → Type 0
EndsWriting (Ok done) before after text = IsWhole before after text
EndsWriting (Err kind) before after text = (IsFailure kind × Keeps before after) ⊎ IsCut kind before after text
