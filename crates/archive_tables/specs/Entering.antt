-- What entering a page does: its rows are register entries, the archive is looked at for their places, and one request
-- makes them all. Rules of our own.
use Rattle.std.specs.Prelude.{
  ◌≡◌,
  ◌⊎◌,
  ◌-◌,
  ℕ,
  true,
  false,
  List,
  [],
  ◌∷◌,
  Option,
  Some,
  None,
  option_map,
  slice_get,
  Result,
  Ok,
  Err,
}
use Rattle.sqlite.specs.Held.{state}
use Rattle.sqlite.specs.State.{HasCleanDisk}
use Rattle.sqlite_trees.specs.declared.store.Store.{Ghosts}
use Rattle.record_text.specs.declared.refusal.Refusal.{Refusal}
use Rattle.record_text.specs.declared.refusal.RefusalKind.TheVariants.{OutOfMemory}
use Rattle.receipts.specs.declared.answer.Answer.{Answer}
use Rattle.commands.specs.declared.command.Command.TheVariants as command
use Rattle.commands.specs.declared.entry_row.EntryRow.{EntryRow}
use Rattle.archive_core.specs.declared.request.Request.{Request}
use Rattle.store.specs.Histories.{Outcome, has_failed, is_storage}
use Rattle.store.specs.Shut.{is_shut}
use Rattle.store.specs.Viewing.{OnReadable}
use Rattle.store.specs.declared.archive.Archive.{Archive}
use Rattle.store_tables.specs.Looking.{IsFailure}
use Rattle.archive_input.specs.Applying.{PerformsAll, Steps, outcome_when_shut}
use Rattle.archive_tables.specs.Ends.{OnRead}
use Rattle.archive_output.specs.Reading.{OnlyReads}
use Rattle.page_batches.specs.Batches.{row_place, rows_by, rows_on, unplaced}
use Rattle.page_batches.specs.Digests.{page_digest}
use Rattle.page_batches.specs.Looks.{Found}
use Rattle.page_batches.specs.Words.{count_words, numbers_of}
use Rattle.page_batches.specs.declared.rows.BatchRefusal.{BatchRefusal}
use Rattle.page_entries.specs.Entries.{page_of}
use Rattle.page_entries.specs.declared.dates.DateOrder.{DateOrder}
use Rattle.page_entries.specs.declared.entries.PageEntry.{PageEntry}
use Rattle.row_references.specs.declared.words.NumberWord.{NumberWord}
use Rattle.archive_tables.specs.Sources.{BySource}
use Rattle.archive_tables.specs.declared.entering.PageEnd.{PageEnd}
use Rattle.archive_tables.specs.declared.entering.PageEnd.TheVariants.{Entered, Unread}

-- the request of a page with these entries, which are these rows on an archive: it is known by the entries
abbrev pub page_request : List ℕ → ℕ → List PageEntry → List EntryRow → Request
page_request token source entries rows = record {
  token = token;
  command = command.Entries source rows;
  digest = Some (page_digest source entries);
}

-- ---- what is answered
-- the row of the sheet that a row of the batch is, which is counted from 1
abbrev pub sheet_row : List ℕ → Option ℕ → Option ℕ
sheet_row numbers None = None
sheet_row numbers (Some row) = option_map row_place (slice_get numbers (row - 1))

abbrev pub of_sheet : List ℕ → Refusal → BatchRefusal
of_sheet numbers e = record { refusal = record { kind = e.kind; at = sheet_row numbers e.at }; line = [] }

abbrev pub answered : List ℕ → Outcome → Result Answer BatchRefusal
answered numbers (Ok answer) = Ok answer
answered numbers (Err e) = Err (of_sheet numbers e)

-- ---- an archive that was looked at
module _ {S : Type 0} (g : Ghosts S) (token : List ℕ) (source : ℕ) (entries : List PageEntry) (old : Archive S g)
    (result : Result Answer BatchRefusal) (new : Archive S g) where
  -- the request was performed with the rows of what was found, and this is its answer, or its refusal
  pub record IsDone (found : List Found) : Type 0 where
    pub rows : List EntryRow
    pub outcome : Outcome
    pub right : rows_by entries (Ok found) ≡ Ok rows
    pub done : Steps g (Ok (page_request token source entries rows, outcome)) old new
    pub is : result ≡ answered (numbers_of entries) outcome

  -- a row has no place, or memory was refused, and the archive is as it was
  abbrev pub IsLeft : List Found → Type 0
  IsLeft found = (e : BatchRefusal) × (result ≡ Err e)
      × ((e ≡ unplaced OutOfMemory) ⊎ (rows_by entries (Ok found) ≡ Err e)) × (new ≡ old)

  abbrev pub IsDoneOrLeft : List Found → Type 0
  IsDoneOrLeft found = IsDone found ⊎ IsLeft found

  -- ---- the whole
  -- one request was performed on the archive, with the rows that the entries are by its places; where an import is open
  -- it was refused with 84, and the archive was only looked at
  pub record IsEntered : Type 0 where
    pub rows : List EntryRow
    pub outcome : Outcome
    pub right : HasCleanDisk (state g new.conn)
        → OnReadable (state g old.conn) (λ stored c. rows_on c token source entries ≡ Ok rows)
    pub performed : PerformsAll g old ((page_request token source entries rows, outcome) ∷ []) new
    pub lost : is_shut old ≡ false → is_shut new ≡ has_failed outcome
    pub waits : is_shut old ≡ true → (outcome ≡ outcome_when_shut old) × OnlyReads g old new
    pub is : result ≡ answered (numbers_of entries) outcome

  -- the archive was only looked at: it has no such source or place; or memory was refused or the database failed
  pub record IsRefused : Type 0 where
    pub why : BatchRefusal
    pub is : result ≡ Err why
    pub reads : OnlyReads g old new
    pub lost : new.is_lost ≡ true → is_storage why.refusal.kind ≡ true
    pub right : OnRead (state g old.conn) (state g new.conn)
        (λ c. IsFailure why.refusal.kind ⊎ (rows_on c token source entries ≡ Err why))

  abbrev pub EntersOf : Type 0
  EntersOf = IsEntered ⊎ IsRefused

-- the same of a source whose number a word gives; where it gives none they were refused without a row
abbrev pub EntersEntries : {S : Type 0} → (g : Ghosts S) → List ℕ → NumberWord → List PageEntry → Archive S g
    → Result Answer BatchRefusal → Archive S g → Type 0
EntersEntries g token word entries old result new =
    BySource g old new word (λ n. EntersOf g token n entries old result new) (λ why. result ≡ Err (unplaced why))

-- the entries of a page were entered or refused, and how many dates are only words is answered
abbrev pub EntersCounted : {S : Type 0} → (g : Ghosts S) → List ℕ → NumberWord → List PageEntry → Archive S g
    → Result PageEnd BatchRefusal → Archive S g → Type 0
EntersCounted g token word entries old (Ok (Entered answer words)) new =
    (words ≡ count_words entries) × EntersEntries g token word entries old (Ok answer) new
EntersCounted g token word entries old (Ok (Unread fault)) new = ⊥
EntersCounted g token word entries old (Err e) new = EntersEntries g token word entries old (Err e) new

-- ---- a page
-- its first fault, and the archive is as it was; or its entries, which were entered or refused, of a source whose
-- number a word gives; or memory was refused before the archive was looked at
abbrev pub EntersPage : {S : Type 0} → (g : Ghosts S) → List ℕ → NumberWord → Option DateOrder → List ℕ → Archive S g
    → Result PageEnd BatchRefusal → Archive S g → Type 0
EntersPage g token word order bytes old (Ok (Unread fault)) new = (page_of order bytes ≡ Err fault) × (new ≡ old)
EntersPage g token word order bytes old (Ok (Entered answer words)) new =
    (entries : List PageEntry) × (page_of order bytes ≡ Ok entries)
    × EntersCounted g token word entries old (Ok (Entered answer words)) new
EntersPage g token word order bytes old (Err e) new = ((e ≡ unplaced OutOfMemory) × (new ≡ old))
    ⊎ ((entries : List PageEntry) × (page_of order bytes ≡ Ok entries)
    × EntersEntries g token word entries old (Err e) new)
