-- What the making of an archive is refused for, and what a refusal leaves. Rules of our own.
use Rattle.std.specs.Prelude.{◌≡◌, ◌≢◌, ◌⊎◌, List, [], ℕ}
use Rattle.sqlite.specs.State.{State, HasCleanDisk}
use Rattle.sqlite.specs.Tree.{Trees}
use Rattle.record_text.specs.Text.{IsText}
use Rattle.record_text.specs.declared.refusal.RefusalKind.{RefusalKind}
use Rattle.record_text.specs.declared.refusal.RefusalKind.TheVariants.{BadText, NotAnArchive, Storage}
use Rattle.archive_state.specs.Content.{nothing}
use Rattle.store_tables.specs.Calls.{IsBlank, SettledBlank}
use Rattle.store_tables.specs.Schema.{no_schema}
use Rattle.store.specs.Archives.{IsArchive}

-- the name of a society: a text that is not empty
abbrev pub IsSociety : List ℕ → Type 0
IsSociety society = IsText society × (society ≢ [])

-- a store where nothing was made is left so, or with the new archive
abbrev pub LeavesBlankOrNew : List ℕ → State → State → Type 0
LeavesBlankOrNew society old new = HasCleanDisk new → SettledBlank old → (t : Trees) → new.may_leave t
    → IsBlank t ⊎ IsArchive society nothing t

-- 82: something was made in the store before; 80: the database failed
abbrev pub RefusesToMake : List ℕ → State → State → RefusalKind → Type 0
RefusesToMake society old new kind =
    ((kind ≡ NotAnArchive) × (old.now.schema ≢ no_schema))
    ⊎ ((kind ≡ Storage) × (old.now.schema ≡ no_schema) × LeavesBlankOrNew society old new)

-- 58: the society has no name; else as above
abbrev pub RefusesToCreate : List ℕ → State → State → RefusalKind → Type 0
RefusesToCreate society old new kind = ((kind ≡ BadText) × ¬ (IsSociety society))
    ⊎ (IsSociety society × RefusesToMake society old new kind)
