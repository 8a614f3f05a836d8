-- What entering rows as one batch does: they are register entries, with the numbers that the archive has for the tokens
-- of their places, and one request makes them all. Rules of our own.
use Rattle.std.specs.Prelude.{◌≡◌, ◌⊎◌, ℕ, List, Option, None, Ok, Err, map, false, true}
use Rattle.sqlite.specs.Held.{state}
use Rattle.sqlite.specs.State.{HasCleanDisk}
use Rattle.sqlite_trees.specs.declared.store.Store.{Ghosts}
use Rattle.record_text.specs.declared.refusal.Refusal.{Refusal}
use Rattle.record_text.specs.declared.refusal.RefusalKind.{RefusalKind}
use Rattle.record_text.specs.declared.refusal.RefusalKind.TheVariants.{OutOfMemory, ReadFailed}
use Rattle.archive_core.specs.declared.request.Request.{Request}
use Rattle.archive_state.specs.Content.{Content}
use Rattle.commands.specs.declared.command.Command.TheVariants as command
use Rattle.commands.specs.declared.entry_row.EntryRow.{EntryRow}
use Rattle.store.specs.Histories.{Outcome, is_storage}
use Rattle.store.specs.Shut.{is_shut}
use Rattle.store.specs.Viewing.{OnReadable}
use Rattle.store.specs.declared.archive.Archive.{Archive}
use Rattle.store_tables.specs.Looking.{IsFailure}
use Rattle.row_references.specs.Entries.{place_number}
use Rattle.row_references.specs.References.{kept_number}
use Rattle.row_references.specs.declared.words.NumberWord.{NumberWord}
use Rattle.request_csv.specs.Batches.{AreEntries, IsRefused, ReadsBatch, ReadsRows, RefusesPlaced, placeless}
use Rattle.request_csv.specs.Input.{AreRows, Row}
use Rattle.request_csv.specs.declared.batch_rows.BatchRow.{BatchRow}
use Rattle.archive_input.specs.Applying.{Steps}
use Rattle.archive_output.specs.Reading.{OnlyReads}
use Rattle.archive_tables.specs.Sources.{BySource}

-- the request of a batch of register entries of a source
abbrev pub batch_request : List ℕ → ℕ → List EntryRow → Request
batch_request token source rows = record { token = token; command = command.Entries source rows; digest = None }

-- the number of each row: what an archive has for the token of its place
abbrev pub numbers_on : Content → List Row → List (Option ℕ)
numbers_on c rows = map (place_number (kept_number c)) rows

module _ {S : Type 0} (g : Ghosts S) (token : List ℕ) (source : ℕ) where
  -- ---- rows with numbers
  module _ (numbers : List (Option ℕ)) (rows : List Row) (old : Archive S g) (outcome : Outcome)
      (new : Archive S g) where
    -- the request of their entries was performed with this outcome
    abbrev pub IsDone : Type 0
    IsDone = (entries : List EntryRow) × AreEntries numbers 0 rows entries
        × Steps g (Ok (batch_request token source entries, outcome)) old new

    -- a row is no entry, or memory was refused, and the archive is as it was
    abbrev pub IsLeft : Type 0
    IsLeft = (why : Refusal) × (outcome ≡ Err why)
        × ((why ≡ placeless OutOfMemory) ⊎ RefusesPlaced numbers rows why) × (new ≡ old)

  -- ---- rows as they are read
  module _ (input : Option (List ℕ)) (old : Archive S g) (outcome : Outcome) (new : Archive S g) where
    -- the request of the entries of all rows was performed with this outcome, with the numbers that the archive has;
    -- one that takes no requests refuses a batch whatever its rows are
    pub record IsEntered : Type 0 where
      pub numbers : List (Option ℕ)
      pub rows : List Row
      pub entries : List EntryRow
      pub read : is_shut old ≡ false → ReadsBatch numbers input rows entries
      pub right : is_shut old ≡ false → HasCleanDisk (state g new.conn)
          → OnReadable (state g old.conn) (λ stored c. numbers ≡ numbers_on c rows)
      pub done : Steps g (Ok (batch_request token source entries, outcome)) old new

    -- the archive was only looked at: a row has no number, or is no entry with it; or memory was refused or the
    -- database failed
    pub record IsRefusedBatch : Type 0 where
      pub why : Refusal
      pub is : outcome ≡ Err why
      pub reads : OnlyReads g old new
      pub lost : new.is_lost ≡ true → is_storage why.kind ≡ true
      pub rows : List Row
      pub read : AreRows input rows
      pub right : HasCleanDisk (state g new.conn) → OnReadable (state g old.conn)
          (λ stored c. IsFailure why.kind ⊎ RefusesPlaced (numbers_on c rows) rows why)

    -- memory was refused before anything was looked at
    abbrev pub WantsMemory : Type 0
    WantsMemory = (outcome ≡ Err (placeless OutOfMemory)) × (new ≡ old)

    abbrev pub EntersOf : Type 0
    EntersOf = IsEntered ⊎ (IsRefusedBatch ⊎ WantsMemory)

-- the word gives no number: all rows of the input were read before, and the batch was refused without a row
abbrev pub HasNoSource : Option (List ℕ) → Outcome → RefusalKind → Type 0
HasNoSource input outcome why = (outcome ≡ Err (placeless why)) × ((batch : List BatchRow) × ReadsRows input batch)

-- the same of a source whose number a word gives. An archive that takes no requests is not looked at for it: it refuses
-- the batch as one of any source
abbrev pub Enters : {S : Type 0} → (g : Ghosts S) → List ℕ → NumberWord → Option (List ℕ) → Archive S g → Outcome
    → Archive S g → Type 0
Enters g token word input old outcome new =
    BySource g old new word (λ n. EntersOf g token n input old outcome new) (HasNoSource input outcome)
    ⊎ ((is_shut old ≡ true) × ((n : ℕ) → EntersOf g token n input old outcome new))

-- why rows are no batch; the reader is blamed only where it failed
abbrev pub IsNoBatch : Option (List ℕ) → Refusal → Type 0 → Type 0
IsNoBatch input e ReaderFailed = IsRefused input e × (e.kind ≡ ReadFailed → ReaderFailed)
