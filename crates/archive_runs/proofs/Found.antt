-- What is kept of a task that ended on the archive in a file, and what is found in what a crash may leave.
use Rattle.std.proofs.Common.{
  ◌≡◌,
  ◌∙◌,
  ◌⊎◌,
  ◌∷◌,
  [],
  ℕ,
  ℤ,
  Bool,
  true,
  false,
  List,
  Some,
  None,
  Ok,
  Err,
  inl,
  inr,
  refl,
  sym,
  ap,
  arith,
  subst,
}
use Rattle.std.specs.Prelude.{Option, Result}
use Rattle.std.specs.Io.KnownBytes.{Appends, Keeps as StaysKnown}
use Rattle.std.specs.declared.io.Read as read
use Rattle.std.specs.declared.io.Write as write
use Rattle.sqlite.specs.Files.{HoldsDatabase, file_state, over_files}
use Rattle.sqlite.specs.Held.{Held}
use Rattle.sqlite.specs.State.{HasCleanDisk, State}
use Rattle.sqlite.specs.Tree.{Trees}
use Rattle.sqlite_disk.specs.declared.Disk as disk
use Rattle.sqlite_store.specs.declared.store.FileStore.{FileStore}
use Rattle.sqlite_wal.specs.Recovery.{Image}
use Rattle.archive_files.specs.Opening.{IsTakenUp}
use Rattle.archive_runs.specs.Tasks.{PerformsOn}
use Rattle.archive_core.specs.Machine.{Done, Runs, import_of}
use Rattle.archive_core.specs.declared.request.Request.{Request}
use Rattle.expected_answers.specs.Expected.{left as left_of}
use Rattle.expected_answers.specs.declared.expected.Expected.{Expected}
use Rattle.expected_rows.specs.Expecting.{AreAnswered, AreExpected}
use Rattle.expected_rows.specs.declared.expecting.Ending.TheVariants as ending
use Rattle.archive_output.specs.Exporting.{export_text}
use Rattle.archive_output.specs.Reading.{OnOpen, OnlyReads}
use Rattle.archive_tables.specs.Texts.{list_of, shown_text}
use Rattle.archive_state.specs.Content.{Content}
use Rattle.archive_tables.specs.RowBatches.{
  Enters,
  EntersOf as EntersBatchOf,
  HasNoSource,
  IsEntered as IsBatch,
  batch_request,
  numbers_on,
}
use Rattle.archive_tables.specs.Entering.{EntersOf, EntersPage, IsEntered, page_request}
use Rattle.archive_tables.specs.Making.{EntersLacking, EntersPlaced, IsTaken, IsUnread, IsUntaken}
use Rattle.archive_tables.specs.Sources.{BySource, HadNumber}
use Rattle.archive_tables.proofs.Entered.{true_is_not}
use Rattle.archive_tables.specs.declared.making.MadePlace.{MadePlace}
use Rattle.archive_tables.specs.declared.entering.PageEnd.TheVariants.{Entered, Unread}
use Rattle.page_batches.specs.Batches.{rows_on, unplaced}
use Rattle.page_batches.specs.Words.{numbers_of}
use Rattle.page_batches.specs.declared.rows.BatchRefusal.{BatchRefusal}
use Rattle.page_entries.specs.Entries.{page_of}
use Rattle.page_entries.specs.declared.entries.PageEntry.{PageEntry}
use Rattle.page_texts.specs.Texts.{page_text}
use Rattle.table_pages.specs.declared.fault.PageFault.{PageFault}
use Rattle.request_csv.specs.Batches.{ReadsBatch}
use Rattle.request_csv.specs.Input.{AreFirstRows, AreRows, Row, row_bytes}
use Rattle.commands.specs.declared.entry_row.EntryRow.{EntryRow}
use Rattle.devices.specs.Devices.{AppendsBeginning}
use Rattle.devices.specs.declared.device.Device as device
use Rattle.round_trip.specs.SameLaws.{FileComesBack}
use Rattle.archive_input.specs.Importing.{Imports, IsFileOf}
use Rattle.archive_input.specs.Telling.{import_text}
use Rattle.gedcom_export.specs.Ends.{IsWhole}
use Rattle.gedcom_tree.specs.Forest.{Item}
use Rattle.import_definitions.specs.Report.{report}
use Rattle.receipts.specs.declared.answer.Answer.{Answer}
use Rattle.receipts.specs.declared.report.ReportLine.{ReportLine}
use Rattle.row_references.specs.References.{kept_number}
use Rattle.row_references.specs.Words.{number_in}
use Rattle.row_references.specs.declared.words.NumberWord.{NumberWord}
use Rattle.row_references.specs.declared.words.NumberWord.TheVariants.{Number, Reference}
use Rattle.record_text.specs.Text.{IsText}
use Rattle.record_text.specs.declared.refusal.Refusal.{Refusal}
use Rattle.record_text.specs.declared.refusal.RefusalKind.{RefusalKind}
use Rattle.record_text.specs.declared.refusal.RefusalKind.TheVariants.{OutOfMemory}
use Rattle.record_text.specs.declared.refusal.RefusalText.{RefusalText}
use Rattle.record_text.specs.declared.refusal.Unit.TheVariants as unit
use Rattle.std.proofs.lemmas.List.{append-nil}
use Rattle.list_laws.proofs.Outcomes.{keeps}
use Rattle.archive_output.specs.declared.sheet.Sheet.{Sheet}
use Rattle.store.specs.Archives.{IsArchive}
use Rattle.store.specs.Calls.{Performs}
use Rattle.store.specs.Earlier.{HoldsArchive}
use Rattle.store.specs.Histories.{Outcome as Answered, in_doubt}
use Rattle.store.specs.Lives.{Counts, IsRefusedOver}
use Rattle.store.specs.Shut.{is_shut}
use Rattle.store.specs.declared.archive.Archive.{Archive}
use Rattle.store.proofs.Histories.{counted, performs_then}
use Rattle.store.proofs.Viewed.{seen_of}
use Rattle.archive_input.specs.Answers.{Served}
use Rattle.archive_input.specs.Applying.{
  Applied,
  AppliedOf,
  AreServedIn,
  AreServedOver,
  Ended as EndedEarly,
  Ends as EndsEarly,
  PerformsAll,
  Steps,
  answers,
  calls_of,
}
use Rattle.archive_input.specs.Stopping.{AreAccepted, IsUpToRefusal}
use Rattle.archive_input.proofs.InTurn.{none_more}
use Rattle.archive_input.proofs.Refusals.{accepted_up_to, refused_up_to}
use Rattle.tasks.specs.Ends.{
  Applies,
  AppliesAsExpected,
  AppliesUntilRefused,
  Audits,
  ChecksTable,
  Does,
  EntersBatch,
  EntersBy,
  EntersTable,
  Exports,
  ExportsPlain,
  ImportsFile,
  IsAudit,
  ListsDays,
  PrintsSheet,
  PrintsHistory,
  PrintsText,
  Publishes,
  PublishesPlain,
}
use Rattle.tasks.specs.Expecting.{Expecting, as_expected, unexpected}
use Rattle.tasks.specs.Moments.{Moment, Streams, at}
use Rattle.tasks.specs.Parts.{Shelves}
use Rattle.tasks.specs.Status.{Finishes, Outcome, Plain, as_text, placeless_text}
use Rattle.tasks.specs.Stopping.{Concludes, Stopping, as_stopped}
use Rattle.tasks.specs.Checking.{IsText as IsTableText}
use Rattle.tasks.specs.Tables.{PageEntering, PrintsMade, SaysPage}
use Rattle.tasks.specs.Texts.{made_text}
use Rattle.tasks.proofs.Quiet.{refused_with_1}
use Rattle.tasks.specs.declared.task.TableForm.{TableForm}
use Rattle.tasks.specs.declared.task.Task.{Task}
use Rattle.tasks.specs.declared.task.Task.TheVariants as task
use Rattle.archive_runs.specs.Reading.{ReadsBack}
use Rattle.archive_runs.specs.Runs.{Acts, IsExpectedUpTo, KeepsNone, KeepsOne, KeepsRows, KeepsTable, Run, Tells}
use Rattle.archive_runs.specs.Seeing.{IsSeen, IsSeenAs}
use Rattle.archive_runs.proofs.Counted.{IsKept, Ran, accepted, refused}
use Rattle.archive_runs.proofs.Paging.{ok_is_no_err, was_answered, was_refused}
use Rattle.archive_runs.proofs.Placed.{IsTold, LeavesPlaced, tried}
use Rattle.archive_runs.proofs.Seen.{HasDone, kept_still, never, run_of, told, told_none, told_part}

-- ---- archives in what a crash may leave
pub still_held : (t : Trees) (s : State) → IsRefusedOver t s → (society : List ℕ) (c : Content)
    → HoldsArchive society c t → (left : Trees) → s.may_leave left → HoldsArchive society c left
still_held t s over society c (inl is) left may =
    let found = over.kept society c is left may in
    inl (subst (λ (k : Content). IsArchive society k left) found.1 found.2)
still_held t s over society c (inr was) left may = over.held society c was left may

answer_is_no_refusal : (answer : Answer) (why : Refusal) → Ok answer ≡ Err why → ⊥
answer_is_no_refusal answer why is = absurd cc

-- the law of `archive_runs`
abbrev pub ArePerformed : {D : Type 0} → disk.Ghosts D → Type 0
ArePerformed {D} g = (image : Image) (taken new : Archive (FileStore D g) over_files) (calls : List Done)
    → IsTakenUp image taken → PerformsAll over_files taken calls new → PerformsOn image calls (file_state new.conn)

-- ---- of a task whose run was seen so
module _ {R W F : Type 0} (reader : read.Ghosts R) (reads : device.Ghosts R) (writer : write.Ghosts W)
    (writes : device.Ghosts W) (faulter : write.Ghosts F) (fails : device.Ghosts F) (x y : Streams R W F)
    (input seen unseen : List ℕ) (status : ℕ) (ended : Option ℕ) (s : IsSeen reader writer x y input seen unseen)
    (is : IsSeenAs status unseen ended) where
  abbrev pub run : Task → Run
  run t = run_of t input seen ended

  abbrev Got : Option (List ℕ)
  Got = writer.contents x.output

  abbrev Has : Option (List ℕ)
  Has = writer.contents y.output

  -- what was seen of what was written, by the lemmas of Seen
  tells : (t : Task) (text : List ℕ) → Appends Got Has text → Tells (run t) text
  tells = told reader writer x y input seen unseen status ended s is

  tells_part : (t : Task) (text : List ℕ) → AppendsBeginning Got Has text → ¬ (HasDone ended) → Tells (run t) text
  tells_part = told_part reader writer x y input seen unseen status ended s is

  tells_none : (t : Task) (text : List ℕ) → seen ≡ [] → ¬ (HasDone ended) → Tells (run t) text
  tells_none = told_none reader writer x y input seen unseen status ended s is

  nothing_told : StaysKnown Got Has → seen ≡ []
  nothing_told = kept_still reader writer x y input seen unseen status ended s is

  -- a refusal
  undone : status ≡ 1 → ¬ (HasDone ended)
  undone = never reader writer x y input seen unseen status ended s is

  -- what is kept, and what is found in tables that a crash may leave
  unprinted : y.output ≡ x.output → StaysKnown Got Has
  unprinted same = subst (λ (w : W). StaysKnown Got (writer.contents w)) (sym same) (keeps Got)

  abbrev pub FoundIn : Task → List ℕ → Content → Trees → Type 0
  FoundIn t society c left = (kept : List Done) × (found : Content) × Acts c (Some t) (run t) kept × Runs c kept found
      × HoldsArchive society found left

  -- nothing was done
  pub acts_none : (t : Task) (c : Content) → seen ≡ [] → ¬ (HasDone ended) → Acts c (Some t) (run t) []
  acts_none task.Apply c none never = inl (refl, none, never)
  acts_none task.ApplyUntilRefused c none never = inl (refl, none, never)
  acts_none (task.ApplyAsExpected expected stops) c none never = inl (refl, none, never)
  acts_none (task.Entries token source) c none never = inl (refl, none, never)
  acts_none (task.EnterTable token source form) c none never = inl (refl, none, never)
  acts_none (task.CheckTable source form) c none never = refl
  acts_none (task.Import token progress) c none never = inl (refl, none, never)
  acts_none task.Export c none never = (refl, λ done. absurd (never done))
  acts_none (task.ExportPublic today) c none never = refl
  acts_none task.ExportPlain c none never = refl
  acts_none (task.ExportPublicPlain today) c none never = refl
  acts_none (task.Sheet sheet today) c none never = refl
  acts_none (task.Library today) c none never = refl
  acts_none task.Audit c none never = refl
  acts_none (task.Days first last words) c none never = refl
  acts_none (task.List source listing) c none never = refl
  acts_none (task.Show numbers) c none never = refl
  acts_none (task.History n) c none never = refl

  pub keeps_none : (t : Task) (society : List ℕ) (c : Content) (left : Trees) → Acts c (Some t) (run t) []
      → HoldsArchive society c left → FoundIn t society c left
  keeps_none t society c left acts held = ([], c, acts, refl, held)

  -- ---- on an archive that was taken up
  module _ {D : Type 0} {g : disk.Ghosts D} (image : Image) (taken new : Archive (FileStore D g) over_files)
      (held : IsTakenUp image taken) (clean : HasCleanDisk (file_state new.conn)) (society : List ℕ) (c : Content)
      (tables : Trees) (holds : HoldsDatabase image tables) (had : HoldsArchive society c tables) (left : Trees)
      (may : (file_state new.conn).may_leave left) where
    -- requests that were performed
    performed : ArePerformed g → (calls : List Done) → PerformsAll over_files taken calls new
        → (kept : List Done) × (found : Content) × Counts calls kept × Runs c kept found × IsArchive society found left
    performed law calls all =
        let one = (law image taken new calls held all clean society c tables holds had).1 left may in
        let counts = counted calls c one.0 (in_doubt calls) refl one.1 in
        (counts.0, one.0, counts.1, counts.2, one.2)

    -- one request that was accepted
    one_accepted : ArePerformed g → (r : Request) (answer : Answer)
        → PerformsAll over_files taken ((r, Ok answer) ∷ []) new
        → (kept : List Done) × (found : Content) × (kept ≡ (r, Ok answer) ∷ []) × Runs c kept found
        × IsArchive society found left
    one_accepted law r answer all =
        let k = performed law ((r, Ok answer) ∷ []) all in (k.0, k.1, accepted r answer k.0 k.2, k.3, k.4)

    -- one that was refused, or is in doubt
    one_refused : ArePerformed g → (r : Request) (e : Refusal) → PerformsAll over_files taken ((r, Err e) ∷ []) new
        → (found : Content) × Ran r c found × IsArchive society found left
    one_refused law r e all =
        let k = performed law ((r, Err e) ∷ []) all in (k.1, refused r e c k.1 k.0 k.2 k.3, k.4)

    -- the archive is as it was taken up
    same_archive : new ≡ taken → IsArchive society c left
    same_archive same =
        let again = subst (λ (a : Archive (FileStore D g) over_files). IsTakenUp image a) (sym same) held in
        let found = (again.has clean society c tables holds had).2 left may in
        subst (λ (k : Content). IsArchive society k left) found.1 found.2

    -- it was only read
    only_read : (P : List ℕ → Content → Type 0) → OnOpen (file_state taken.conn) (file_state new.conn) P
        → P society c × IsArchive society c left
    only_read P opened =
        let did = opened clean in
        let had_it = (held.has did.0 society c tables holds had).0 in
        let all = did.1 society c had_it in
        let found = all.1 left may in
        (all.0, subst (λ (k : Content). IsArchive society k left) found.1 found.2)

    -- it was only looked at
    only_looked : OnlyReads over_files taken new → IsArchive society c left
    only_looked reads =
        let stays = reads.stays clean in
        let had_it = (held.has stays.clean society c tables holds had).0 in
        (had_it.0, stays.crash had_it.0 c had_it.1 (seen_of had_it.2) left may, had_it.2)

    -- the number of a token that was looked for is that of the archive that the file held
    number_held : (token : List ℕ) (n : ℕ) → HadNumber over_files taken new token n → kept_number c token ≡ Some n
    number_held token n had_number =
        let at = had_number clean in
        let had_it = (held.has at.0 society c tables holds had).0 in
        at.1 had_it.0 c had_it.1 (seen_of had_it.2)

    -- of a source whose number a word gives
    by_source : (t : Task) (word : NumberWord) (P : ℕ → Type 0) (Refused : RefusalKind → Type 0)
        → BySource over_files taken new word P Refused
        → ((n : ℕ) → number_in c word ≡ Some n → P n → FoundIn t society c left)
        → ((why : RefusalKind) → OnlyReads over_files taken new → Refused why → FoundIn t society c left)
        → FoundIn t society c left
    by_source t (Number n) P Refused p all none = all n refl p
    by_source t (Reference token) P Refused (inl p) all none = all p.0 (number_held token p.0 p.1) p.2
    by_source t (Reference token) P Refused (inr lacks) all none = none lacks.0 lacks.1.reads lacks.2

    -- ---- rows of requests
    -- the numbers of the archive that was taken up are those of the archive that the file held
    numbered : (rows : List Row) (served : List Served) → PerformsAll over_files taken (calls_of served) new
        → AreServedIn over_files rows served taken new → AreServedOver c rows served
    numbered rows served all are = are clean held.ready society c
        (held.has (all clean held.ready).clean society c tables holds had).0

    -- for a task of which such rows are kept
    module _ (law : ArePerformed g) (t : Task) (rows : Option (List ℕ)) (same : rows ≡ row_bytes (Some input)) where
      told_early : (kind : RefusalKind) (served : List Served) → EndsEarly kind served Got Has → ¬ (HasDone ended)
          → Tells (run t) (answers served)
      told_early kind served (inl storage) never = tells t (answers served) storage.2
      told_early kind served (inr (none, inl reading)) never = tells t (answers served) reading.1
      told_early kind served (inr (none, inr part)) never = tells_part t (answers served) part.1 never

      rows_served : (all : Applied over_files rows Got Has taken new)
          → ((kept : List Done) → (k : KeepsRows c (run t) kept) → k.served ≡ all.served → Acts c (Some t) (run t) kept)
          → FoundIn t society c left
      rows_served all acts =
          let k = performed law (calls_of all.served) all.performed in (
            k.0,
            k.1,
            acts k.0
                (record {
                  rows = all.rows;
                  served = all.served;
                  read = inl (subst (λ bytes. AreRows bytes all.rows) same all.all, all.certain);
                  each = all.each;
                  numbers = numbered all.rows all.served all.performed all.numbers;
                  counts = k.2;
                  told = tells t (answers all.served) all.written;
                })
                refl,
            k.3,
            inl k.4,
          )

      -- the first of the rows, all of which were answered
      rows_stopped : (part : AppliedOf AreFirstRows over_files rows Got Has taken new) → ¬ (HasDone ended)
          → ((kept : List Done) → (k : KeepsRows c (run t) kept) → k.served ≡ part.served
          → Acts c (Some t) (run t) kept)
          → FoundIn t society c left
      rows_stopped part never acts =
          let k = performed law (calls_of part.served) part.performed in (
            k.0,
            k.1,
            acts k.0
                (record {
                  rows = part.rows;
                  served = part.served;
                  read = inr (subst (λ bytes. AreFirstRows bytes part.rows) same part.all, never);
                  each = part.each;
                  numbers = numbered part.rows part.served part.performed part.numbers;
                  counts = k.2;
                  told = tells t (answers part.served) part.written;
                })
                refl,
            k.3,
            inl k.4,
          )

      rows_ended : (kind : RefusalKind) (part : EndedEarly over_files kind rows Got Has taken new)
          → ¬ (HasDone ended)
          → ((kept : List Done) → (k : KeepsRows c (run t) kept) → k.served ≡ part.served
          → Acts c (Some t) (run t) kept)
          → FoundIn t society c left
      rows_ended kind part never acts =
          let k = performed law (calls_of part.served) part.performed in (
            k.0,
            k.1,
            acts k.0
                (record {
                  rows = part.rows;
                  served = part.served;
                  read = inr (subst (λ bytes. AreFirstRows bytes part.rows) same part.first, never);
                  each = part.each;
                  numbers = numbered part.rows part.served part.performed part.numbers;
                  counts = k.2;
                  told = told_early kind part.served part.written never;
                })
                refl,
            k.3,
            inl k.4,
          )

    -- ---- one request, with the text of its answer
    -- what a run with this task keeps, where it keeps one request or none
    module _ (law : ArePerformed g) (t : Task) (r : Request) (text : Answer → List ℕ)
        (acts : (kept : List Done) → KeepsNone (run t) kept ⊎ KeepsOne (run t) r text kept
        → Acts c (Some t) (run t) kept)
      where
        one_told : (answer : Answer) → PerformsAll over_files taken ((r, Ok answer) ∷ []) new
            → Tells (run t) (text answer) → FoundIn t society c left
        one_told answer all tells_it =
            let k = one_accepted law r answer all in
            (k.0, k.1, acts k.0 (inr (answer, k.2, tells_it)), k.3, inl k.4)

        kept_or_not : (kept : List Done) → seen ≡ [] → ¬ (HasDone ended) → (kept ≡ []) ⊎ IsKept r kept
            → KeepsNone (run t) kept ⊎ KeepsOne (run t) r text kept
        kept_or_not kept none never (inl nothing) = inl (nothing, none, never)
        kept_or_not kept none never (inr one) = inr (one.0, one.1, tells_none t (text one.0) none never)

        one_untold : (e : Refusal) → PerformsAll over_files taken ((r, Err e) ∷ []) new → seen ≡ []
            → ¬ (HasDone ended) → FoundIn t society c left
        one_untold e all none never =
            let k = one_refused law r e all in
            (k.1.0, k.0, acts k.1.0 (kept_or_not k.1.0 none never k.1.1), k.1.2, inl k.2)

    -- ---- a batch of entries
    module _ (law : ArePerformed g) (token : List ℕ) (word : NumberWord) (source : ℕ)
        (given : number_in c word ≡ Some source)
      where
        abbrev Entering : Task
        Entering = task.Entries token word

        acts_batch : (rows : List Row) (entries : List EntryRow)
            → ReadsBatch (numbers_on c rows) (row_bytes (Some input)) rows entries → (kept : List Done)
            → KeepsNone (run Entering) kept
            ⊎ KeepsOne (run Entering) (batch_request token source entries) made_text kept
            → Acts c (Some Entering) (run Entering) kept
        acts_batch rows entries reads_them kept (inl none) = inl none
        acts_batch rows entries reads_them kept (inr one) = inr (source, given, (rows, entries, reads_them, one))

        -- the archive was looked at, with what it held
        batch_held : (o : Answered)
            → (e : IsBatch over_files token source (row_bytes (reader.remaining x.input)) taken o new)
            → ReadsBatch (numbers_on c e.rows) (row_bytes (Some input)) e.rows e.entries
        batch_held o e =
            let was_clean = (e.done.0 clean held.ready).clean in
            let had_it = (held.has was_clean society c tables holds had).0 in
            let same = e.right held.ready clean had_it.0 c had_it.1 (seen_of had_it.2) in
            subst (λ (ns : List (Option ℕ)). ReadsBatch ns (row_bytes (Some input)) e.rows e.entries) same
            (subst (λ bytes. ReadsBatch e.numbers (row_bytes bytes) e.rows e.entries) s.reads (e.read held.ready))

        batch_told : (answer : Answer)
            → EntersBatchOf over_files token source (row_bytes (reader.remaining x.input)) taken (Ok answer) new
            → Tells (run Entering) (made_text answer) → FoundIn Entering society c left
        batch_told answer (inl e) tells_it =
            one_told law Entering (batch_request token source e.entries) made_text
            (acts_batch e.rows e.entries (batch_held (Ok answer) e)) answer e.done.0 tells_it
        batch_told answer (inr (inl r)) tells_it = absurd (answer_is_no_refusal answer r.why r.is)
        batch_told answer (inr (inr none)) tells_it = absurd (answer_is_no_refusal answer _ none.0)

        batch_untold : (e : Refusal)
            → EntersBatchOf over_files token source (row_bytes (reader.remaining x.input)) taken (Err e) new
            → seen ≡ [] → ¬ (HasDone ended) → FoundIn Entering society c left
        batch_untold why (inl e) none never =
            one_untold law Entering (batch_request token source e.entries) made_text
            (acts_batch e.rows e.entries (batch_held (Err why) e)) why e.done.0 none never
        batch_untold why (inr (inl r)) none never =
            keeps_none Entering society c left (acts_none Entering c none never) (inl (only_looked r.reads))
        batch_untold why (inr (inr wants)) none never =
            keeps_none Entering society c left (acts_none Entering c none never) (inl (same_archive wants.1))

    -- ---- a page
    module _ (law : ArePerformed g) (token : List ℕ) (word : NumberWord) (source : ℕ)
        (given : number_in c word ≡ Some source) (form : TableForm) (plain : form.makes ≡ false)
      where
        abbrev Paging : Task
        Paging = task.EnterTable token word form

        module _ (entries : List PageEntry)
            (reads_them : page_of form.order (page_text form.set input) ≡ Ok entries) where
          acts_page : (rows : List EntryRow) → rows_on c token source entries ≡ Ok rows → (kept : List Done)
              → KeepsNone (run Paging) kept
              ⊎ KeepsOne (run Paging) (page_request token source entries rows) made_text kept
              → Acts c (Some Paging) (run Paging) kept
          acts_page rows are kept (inl none) = inl none
          acts_page rows are kept (inr one) = inr (
            source,
            given,
            subst (λ (makes : Bool). KeepsTable makes c token source form (run Paging) kept) (sym plain)
                (entries, reads_them, (rows, are, one)),
          )

          -- the archive was read, with what it held
          rows_held : (r : Result Answer BatchRefusal)
              → (e : IsEntered over_files token source entries taken r new) → rows_on c token source entries ≡ Ok e.rows
          rows_held r e =
              let was_clean = (e.performed clean held.ready).clean in
              let had_it = (held.has was_clean society c tables holds had).0 in
              e.right clean had_it.0 c had_it.1 (seen_of had_it.2)

          page_told : (answer : Answer) → EntersOf over_files token source entries taken (Ok answer) new
              → Tells (run Paging) (made_text answer) → FoundIn Paging society c left
          page_told answer (inl e) tells_it =
              let r = page_request token source entries e.rows in
              let all : PerformsAll over_files taken ((r, Ok answer) ∷ []) new =
              subst (λ (o : Answered). PerformsAll over_files taken ((r, o) ∷ []) new)
              (was_answered (numbers_of entries) answer e.outcome e.is) e.performed in
              one_told law Paging r made_text (acts_page e.rows (rows_held (Ok answer) e)) answer all tells_it
          page_told answer (inr refused) tells_it = absurd (ok_is_no_err answer refused.why refused.is)

          page_untold : (why : BatchRefusal) → EntersOf over_files token source entries taken (Err why) new
              → seen ≡ [] → ¬ (HasDone ended) → FoundIn Paging society c left
          page_untold why (inl e) none never =
              let r = page_request token source entries e.rows in
              let was = was_refused (numbers_of entries) why e.outcome e.is in
              let all : PerformsAll over_files taken ((r, Err was.0) ∷ []) new =
              subst (λ (o : Answered). PerformsAll over_files taken ((r, o) ∷ []) new) was.1 e.performed in
              one_untold law Paging r made_text (acts_page e.rows (rows_held (Err why) e)) was.0 all none never
          page_untold why (inr refused) none never =
              keeps_none Paging society c left (acts_none Paging c none never) (inl (only_looked refused.reads))

    -- ---- a file
    module _ (law : ArePerformed g) (token : List ℕ) (progress : Bool) where
      abbrev Taking : Task
      Taking = task.Import token progress

      abbrev told_of : List Item → Answer → List ℕ
      told_of forest answer = import_text answer (report forest)

      acts_file : (forest : List Item) → IsFileOf (Some input) forest → (kept : List Done)
          → KeepsNone (run Taking) kept ⊎ KeepsOne (run Taking) (import_of token forest) (told_of forest) kept
          → Acts c (Some Taking) (run Taking) kept
      acts_file forest reads_it kept (inl none) = inl none
      acts_file forest reads_it kept (inr one) = inr (forest, reads_it, one)

      file_read : (o : Answered) → (all : Imports over_files token (reader.remaining x.input) taken o new)
          → IsFileOf (Some input) all.forest
          × PerformsAll over_files taken ((import_of token all.forest, o) ∷ []) new
      file_read o all =
          let steps : Steps over_files (Ok (import_of token all.forest, o)) taken new = all.done in
          (subst (λ bytes. IsFileOf bytes all.forest) s.reads all.read, steps.0)

      file_told : (answer : Answer) → (all : Imports over_files token (reader.remaining x.input) taken (Ok answer) new)
          → Tells (run Taking) (import_text answer (report all.forest)) → FoundIn Taking society c left
      file_told answer all tells_it =
          let f = file_read (Ok answer) all in
          one_told law Taking (import_of token all.forest) (told_of all.forest) (acts_file all.forest f.0) answer f.1
          tells_it

      file_untold : (e : Refusal) → (all : Imports over_files token (reader.remaining x.input) taken (Err e) new)
          → seen ≡ [] → ¬ (HasDone ended) → FoundIn Taking society c left
      file_untold e all none never =
          let f = file_read (Err e) all in
          one_untold law Taking (import_of token all.forest) (told_of all.forest) (acts_file all.forest f.0) e f.1
          none never

    -- ---- an export
    export_back : FileComesBack → IsWhole Got Has (export_text society c) → IsArchive society c left
        → HasDone ended → ReadsBack c seen
    export_back back whole archive done =
        let all = (tells task.Export (export_text society c) whole.written).1 done in
        let text_of : IsText society = subst IsText archive.2.society_is archive.1.typed.society in
        subst (λ bytes. ReadsBack c bytes) (sym all) (back c society archive.2.sound text_of whole.short)

    -- ---- what is kept, by how the task ended
    module _ (between : F) where
      abbrev Before : Moment (over_files {D = D} {g = g}) R W F
      Before = at taken x

      abbrev After : Moment (over_files {D = D} {g = g}) R W F
      After = record { archive = new; input = y.input; output = y.output; faults = between }

      apply_found : ArePerformed g → (r : Plain) → Applies over_files reader reads writer writes faulter fails Before
          After r
          → Finishes faulter.contents fails.failed (as_text r) status between y.faults
          → FoundIn task.Apply society c left
      apply_found law (Ok done) did finishes =
          rows_served law task.Apply (row_bytes (reader.remaining x.input)) (ap row_bytes s.reads) did.applied.0
          (λ kept k is. inr k)
      apply_found law (Err kind) did finishes =
          rows_ended law task.Apply (row_bytes (reader.remaining x.input)) (ap row_bytes s.reads) kind did.ended.0
          (undone finishes.0) (λ kept k is. inr k)

      -- rows that were served up to a refusal
      until_refused : (kept : List Done) (k : KeepsRows c (run task.ApplyUntilRefused) kept) (served : List Served)
          → k.served ≡ served → IsUpToRefusal served → (HasDone ended → AreAccepted served)
          → Acts c (Some task.ApplyUntilRefused) (run task.ApplyUntilRefused) kept
      until_refused kept k served same stops none = inr (record {
        rows = k;
        stops = subst IsUpToRefusal (sym same) stops;
        none = λ done. subst AreAccepted (sym same) (none done);
      })

      until_found : ArePerformed g → (r : Stopping)
          → AppliesUntilRefused over_files reader reads writer writes faulter fails Before After r
          → Concludes faulter.contents fails.failed task.ApplyUntilRefused (as_stopped r) status between y.faults
          → FoundIn task.ApplyUntilRefused society c left
      until_found law (Ok None) did finishes =
          let all = did.applied in
          rows_served law task.ApplyUntilRefused (row_bytes (reader.remaining x.input)) (ap row_bytes s.reads) all.0.0
          (λ kept k same. until_refused kept k all.0.0.served same (accepted_up_to all.0.0.served all.1)
          (λ done. all.1))
      until_found law (Ok (Some e)) did finishes =
          let part = did.applied in
          let never = undone
          (refused_with_1 faulter.contents fails.failed task.ApplyUntilRefused
          (record { refusal = e; unit = unit.Row }) status between y.faults finishes)
          in
          rows_stopped law task.ApplyUntilRefused (row_bytes (reader.remaining x.input)) (ap row_bytes s.reads)
          part.0.0 never
          (λ kept k same. until_refused kept k part.0.0.served same (refused_up_to part.0.0.served e part.1)
          (λ done. absurd (never done)))
      until_found law (Err kind) did finishes =
          let part = did.ended in
          let never = undone
          (refused_with_1 faulter.contents fails.failed task.ApplyUntilRefused (placeless_text kind) status
          between y.faults finishes)
          in
          let up = part.0.1 in
          rows_ended law task.ApplyUntilRefused (row_bytes (reader.remaining x.input)) (ap row_bytes s.reads) kind
          part.0.0 never
          (λ kept k same. until_refused kept k part.0.0.served same (up.0, up.1, up.2, up.3, part.1)
          (λ done. absurd (never done)))

      -- rows that were served as long as each was answered as is expected
      module _ (law : ArePerformed g) (expected : Expected) (stops : Bool) where
        abbrev Comparing : Task
        Comparing = task.ApplyAsExpected expected stops

        as_expected_to : (kept : List Done) (k : KeepsRows c (run Comparing) kept) (served : List Served)
            → k.served ≡ served → IsExpectedUpTo (left_of expected) served → (stops ≡ true → IsUpToRefusal served)
            → (HasDone ended → AreAnswered stops (left_of expected) served)
            → Acts c (Some Comparing) (run Comparing) kept
        as_expected_to kept k served same up_to stopped whole = inr (record {
          rows = k;
          as_expected = subst (IsExpectedUpTo (left_of expected)) (sym same) up_to;
          up_to = λ stop. subst IsUpToRefusal (sym same) (stopped stop);
          whole = λ done. subst (AreExpected (left_of expected)) (sym same) (whole done).0;
          none = λ done stop. subst AreAccepted (sym same) ((whole done).1 stop);
        })

        all_up_to : (served : List Served) → AreExpected (left_of expected) served
            → IsExpectedUpTo (left_of expected) served
        all_up_to served are = (served, [], none_more served, omega arith, are)

        expected_found : (r : Expecting)
            → AppliesAsExpected over_files reader reads writer writes faulter fails Before After expected stops r
            → Concludes faulter.contents fails.failed Comparing (as_expected r) status between y.faults
            → FoundIn Comparing society c left
        expected_found (Ok ending.All) did finishes =
            let all = did.applied in
            rows_served law Comparing (row_bytes (reader.remaining x.input)) (ap row_bytes s.reads) all.0.0
            (λ kept k same. as_expected_to kept k all.0.0.served same (all_up_to all.0.0.served all.1.0)
            (λ stop. accepted_up_to all.0.0.served (all.1.1 stop)) (λ done. all.1))
        expected_found (Ok (ending.Refused e)) did finishes =
            let part = did.applied in
            let never = undone
            (refused_with_1 faulter.contents fails.failed Comparing
            (record { refusal = e; unit = unit.Row }) status between y.faults finishes)
            in
            rows_stopped law Comparing (row_bytes (reader.remaining x.input)) (ap row_bytes s.reads) part.0.0 never
            (λ kept k same. as_expected_to kept k part.0.0.served same (all_up_to part.0.0.served part.2)
            (λ stop. refused_up_to part.0.0.served e part.3) (λ done. absurd (never done)))
        expected_found (Ok (ending.Unexpected n)) did finishes =
            let before = did.applied in
            let m = before.0 in
            let all = before.1.0 in
            let looked = before.6.looked in
            let part : AppliedOf AreFirstRows over_files (row_bytes (reader.remaining x.input)) Got Has taken new =
            record {
              rows = all.rows;
              served = all.served;
              all = all.all;
              each = all.each;
              numbers = λ still was. all.numbers (looked.performed still (all.kept was)).clean was;
              certain = all.certain;
              kept = λ was. looked.free (all.kept was);
              performed = λ still was.
                  let p = looked.performed still (all.kept was) in
                  subst (λ (calls : List Done). Performs (file_state taken.conn) calls (file_state new.conn))
                  (append-nil (calls_of all.served))
                  (performs_then (file_state taken.conn) (file_state m.archive.conn) (file_state new.conn)
                  (calls_of all.served) [] (all.performed p.clean was) all.certain p);
              refused = λ shut.
                  let same = all.refused shut in (
                    same.0,
                    looked.shut (subst (λ (a : Archive (FileStore D g) over_files). is_shut a ≡ true) (sym same.1)
                        shut) ∙ same.1,
                  );
              written = subst (λ (out : Option (List ℕ)). Appends Got out (answers all.served)) (sym before.7)
                  all.written;
            }
            in
            let never = undone
            (refused_with_1 faulter.contents fails.failed Comparing (unexpected n) status between y.faults finishes)
            in
            rows_stopped law Comparing (row_bytes (reader.remaining x.input)) (ap row_bytes s.reads) part never
            (λ kept k same. as_expected_to kept k before.1.0.served same (all_up_to before.1.0.served before.2.0)
            (λ stop. accepted_up_to before.1.0.served (before.2.1 stop)) (λ done. absurd (never done)))
        expected_found (Err kind) did finishes =
            let part = did.ended in
            let up = part.1 in
            let never = undone
            (refused_with_1 faulter.contents fails.failed Comparing (placeless_text kind) status between y.faults
            finishes)
            in
            rows_ended law Comparing (row_bytes (reader.remaining x.input)) (ap row_bytes s.reads) kind part.0 never
            (λ kept k same. as_expected_to kept k part.0.served same (up.0, up.1, up.2, up.3, up.10.0)
            (λ stop. (up.0, up.1, up.2, up.3, up.10.1 stop)) (λ done. absurd (never done)))

      -- of a batch of a source whose number a word gives
      of_batch : (token : List ℕ) (word : NumberWord) (o : Answered)
          → Enters over_files token word (row_bytes (reader.remaining x.input)) taken o new
          → ((n : ℕ) → number_in c word ≡ Some n
          → EntersBatchOf over_files token n (row_bytes (reader.remaining x.input)) taken o new
          → FoundIn (task.Entries token word) society c left)
          → ((why : RefusalKind) → OnlyReads over_files taken new
          → HasNoSource (row_bytes (reader.remaining x.input)) o why → FoundIn (task.Entries token word) society c left)
          → FoundIn (task.Entries token word) society c left
      of_batch token word o (inl d) all none = by_source (task.Entries token word) word
          (λ n. EntersBatchOf over_files token n (row_bytes (reader.remaining x.input)) taken o new)
          (HasNoSource (row_bytes (reader.remaining x.input)) o) d all none
      of_batch token word o (inr shut) all none = absurd (true_is_not (is_shut taken) held.ready shut.0)

      batch_answered : ArePerformed g → (token : List ℕ) (word : NumberWord) (answer : Answer)
          → Enters over_files token word (row_bytes (reader.remaining x.input)) taken (Ok answer) new
          → Tells (run (task.Entries token word)) (made_text answer) → FoundIn (task.Entries token word) society c left
      batch_answered law token word answer did tells_it = of_batch token word (Ok answer) did
          (λ n given d. batch_told law token word n given answer d tells_it)
          (λ why looks lacks. absurd (answer_is_no_refusal answer _ lacks.0))

      batch_refused : ArePerformed g → (token : List ℕ) (word : NumberWord) (e : Refusal)
          → Enters over_files token word (row_bytes (reader.remaining x.input)) taken (Err e) new
          → seen ≡ [] → ¬ (HasDone ended) → FoundIn (task.Entries token word) society c left
      batch_refused law token word e did none never = of_batch token word (Err e) did
          (λ n given d. batch_untold law token word n given e d none never)
          (λ why looks lacks. keeps_none (task.Entries token word) society c left
          (acts_none (task.Entries token word) c none never) (inl (only_looked looks)))

      enter_found : ArePerformed g → (token : List ℕ) (word : NumberWord) (o : Outcome)
          → EntersBatch over_files reader reads writer writes faulter fails Before After token word o
          → Finishes faulter.contents fails.failed o status between y.faults
          → FoundIn (task.Entries token word) society c left
      enter_found law token word (Ok done) did finishes =
          let all = did.entered in
          batch_answered law token word all.0 all.1 (tells (task.Entries token word) (made_text all.0) all.2)
      enter_found law token word (Err t) did finishes = elim did.refused [
        | inl none ↦ elim none.0 [
          | inl batch ↦ batch_refused law token word t.refusal batch (nothing_told none.1) (undone finishes.0)
          | inr no_batch ↦ keeps_none (task.Entries token word) society c left
              (acts_none (task.Entries token word) c (nothing_told none.1) (undone finishes.0))
              (inl (same_archive no_batch.0))
        ]
        | inr part ↦ batch_answered law token word part.0 part.3
            (tells_part (task.Entries token word) (made_text part.0) part.4.written (undone finishes.0))
      ]

      -- the text of a table is that of the input
      page_of_input : (form : TableForm) (text : List ℕ) (r : Result (List PageEntry) PageFault)
          → IsTableText form.set (reader.remaining x.input) text → page_of form.order text ≡ r
          → page_of form.order (page_text form.set input) ≡ r
      page_of_input form text r are is =
          let same : text ≡ page_text form.set input =
          (subst (λ (known : Option (List ℕ)). IsTableText form.set known text) s.reads are).0 in
          ap (page_of form.order) (sym same) ∙ is

      module _ (law : ArePerformed g) (token : List ℕ) (word : NumberWord) (form : TableForm) where
        abbrev Tabling : Task
        Tabling = task.EnterTable token word form

        -- where it is refused nothing was printed
        page_refused : new ≡ taken → y.output ≡ x.output → ¬ (HasDone ended) → FoundIn Tabling society c left
        page_refused same unwritten never = keeps_none Tabling society c left
            (acts_none Tabling c (nothing_told (unprinted unwritten)) never) (inl (same_archive same))

        -- by an outcome that is a refusal
        never_done : (o : Outcome) (t : RefusalText) (said : F) → o ≡ Err t
            → Concludes faulter.contents fails.failed Tabling o status said y.faults → ¬ (HasDone ended)
        never_done o t said is finishes = undone
            (refused_with_1 faulter.contents fails.failed Tabling t status said y.faults
            (subst (λ (same : Outcome). Concludes faulter.contents fails.failed Tabling same status said y.faults) is
            finishes))

        -- ---- what was said of a page, after these faults
        made_told : (o : Outcome) (answer : Answer) (said : F)
            → PrintsMade writer.contents writes.failed faulter.contents fails.failed o x.output y.output said between
            answer
            → Concludes faulter.contents fails.failed Tabling o status between y.faults
            → Tells (run Tabling) (made_text answer)
        made_told (Ok done) answer said prints finishes = tells Tabling (made_text answer) prints.printed
        made_told (Err t) answer said prints finishes =
            tells_part Tabling (made_text answer) prints.part.2.written
            (undone (refused_with_1 faulter.contents fails.failed Tabling t status between y.faults finishes))

        none_told : (o : Outcome) (t : RefusalText) → o ≡ Err t → y.output ≡ x.output
            → Concludes faulter.contents fails.failed Tabling o status between y.faults → KeepsNone (run Tabling) []
        none_told o t is unwritten finishes =
            (refl, nothing_told (unprinted unwritten), never_done o t between is finishes)

        page_said : (o : Outcome) (said : F) (r : PageEntering)
            → SaysPage writer.contents writes.failed faulter.contents fails.failed o x.output y.output said between r
            → Concludes faulter.contents fails.failed Tabling o status between y.faults → IsTold (run Tabling) r
        page_said o said (Ok (Entered answer words)) says finishes = made_told o answer said says.0 finishes
        page_said o said (Ok (Unread fault)) (inl bad, unwritten) finishes = none_told o _ bad.0 unwritten finishes
        page_said o said (Ok (Unread fault)) (inr want, unwritten) finishes = none_told o _ want.0 unwritten finishes
        page_said o said (Err e) says finishes = none_told o _ says.0 says.2 finishes

        -- ---- by whether its places are made
        page_found : form.makes ≡ false → (text : List ℕ) → IsTableText form.set (reader.remaining x.input) text
            → (r : PageEntering) → EntersPage over_files token word form.order text taken r new
            → IsTold (run Tabling) r → FoundIn Tabling society c left
        page_found plain text are (Ok (Entered answer words)) did told =
            by_source Tabling word (λ n. EntersOf over_files token n did.0 taken (Ok answer) new)
            (λ why. Ok answer ≡ Err (unplaced why)) did.2.1
            (λ n given d. page_told law token word n given form plain did.0 (page_of_input form text _ are did.1)
            answer d told)
            (λ why looks lacks. absurd (ok_is_no_err answer _ lacks))
        page_found plain text are (Ok (Unread fault)) did none =
            keeps_none Tabling society c left (inl none) (inl (same_archive did.1))
        page_found plain text are (Err e) (inl want) none =
            keeps_none Tabling society c left (inl none) (inl (same_archive want.1))
        page_found plain text are (Err e) (inr did) none =
            by_source Tabling word (λ n. EntersOf over_files token n did.0 taken (Err e) new)
            (λ why. Err e ≡ Err (unplaced why)) did.2
            (λ n given d. page_untold law token word n given form plain did.0 (page_of_input form text _ are did.1) e d
            none.1 none.2)
            (λ why looks lacks. keeps_none Tabling society c left (inl none) (inl (only_looked looks)))

        module _ (makes : form.makes ≡ true) (made : List MadePlace) (r : PageEntering) (told : IsTold (run Tabling) r)
          where
            none_as : (q : PageEntering) → r ≡ q → IsTold (run Tabling) q
            none_as q is = subst (IsTold (run Tabling)) is told

            unread_found : IsUnread over_files token form.order (page_text form.set input) taken made r new
                → FoundIn Tabling society c left
            unread_found none = keeps_none Tabling society c left
                (inl (elim none.why [
                  | inl want ↦ none_as (Err (unplaced OutOfMemory)) want
                  | inr bad ↦ none_as (Ok (Unread bad.0)) bad.2
                ])) (inl (same_archive none.same))

            untaken_found : (source : ℕ) (entries : List PageEntry)
                → IsUntaken over_files token source form.order (page_text form.set input) entries taken made r new
                → FoundIn Tabling society c left
            untaken_found source entries bad =
                keeps_none Tabling society c left (inl (none_as (Err bad.why) bad.is)) (inl (only_looked bad.reads))

            taken_found : (source : ℕ) → number_in c word ≡ Some source → (entries : List PageEntry)
                → page_of form.order (page_text form.set input) ≡ Ok entries
                → IsTaken over_files token source form.order (page_text form.set input) entries taken made r new
                → FoundIn Tabling society c left
            taken_found source given entries read did =
                let lacking = λ (was : HasCleanDisk (file_state did.between.conn)).
                let read_it = did.right was in
                let had_it = (held.has read_it.0 society c tables holds had).0 in
                (read_it.1 had_it.0 c had_it.1 (seen_of had_it.2)).0 in
                let l : LeavesPlaced society c token source form (run Tabling) left =
                tried image taken did.between held did.reads did.kept society c tables holds had token new clean left
                may source form (run Tabling) entries read did.paths lacking made r did.entered told in (
                  l.0,
                  l.1,
                  inr (
                    source,
                    given,
                    subst (λ (b : Bool). KeepsTable b c token source form (run Tabling) l.0) (sym makes) l.2,
                  ),
                  l.3,
                  inl l.4,
                )

            lacking_found : (source : ℕ) → number_in c word ≡ Some source → (entries : List PageEntry)
                → page_of form.order (page_text form.set input) ≡ Ok entries
                → EntersLacking over_files token source form.order (page_text form.set input) entries taken made r new
                → FoundIn Tabling society c left
            lacking_found source given entries read (inl bad) = untaken_found source entries bad
            lacking_found source given entries read (inr did) = taken_found source given entries read did

            placed_found : EntersPlaced over_files token word form.order (page_text form.set input) taken made r new
                → FoundIn Tabling society c left
            placed_found (inl none) = unread_found none
            placed_found (inr (entries, read, did)) = by_source Tabling word
                (λ n. EntersLacking over_files token n form.order (page_text form.set input) entries taken made r new)
                (λ why. (made ≡ []) × (r ≡ Err (unplaced why))) did
                (λ n given d. lacking_found n given entries read d)
                (λ why looks lacks. keeps_none Tabling society c left (inl (none_as (Err (unplaced why)) lacks.1))
                (inl (only_looked looks)))

        text_found : (makes : Bool) → form.makes ≡ makes → (o : Outcome) (text : List ℕ)
            → IsTableText form.set (reader.remaining x.input) text
            → EntersBy over_files reader reads writer writes faulter fails Before After makes token word form.order
            text o
            → Concludes faulter.contents fails.failed Tabling o status between y.faults
            → FoundIn Tabling society c left
        text_found false plain o text are did finishes =
            page_found plain text are did.0 did.1 (page_said o x.faults did.0 did.2 finishes)
        text_found true makes o text are did finishes =
            let same : text ≡ page_text form.set input =
            (subst (λ (known : Option (List ℕ)). IsTableText form.set known text) s.reads are).0 in
            placed_found makes did.made did.r (page_said o did.between did.r did.said finishes)
            (subst (λ (bytes : List ℕ). EntersPlaced over_files token word form.order bytes taken did.made did.r new)
            same did.entered)

        table_found : (o : Outcome)
            → EntersTable over_files reader reads writer writes faulter fails Before After token word form o
            → Concludes faulter.contents fails.failed Tabling o status between y.faults
            → FoundIn Tabling society c left
        table_found o (inl none) finishes = page_refused none.3 none.4 (never_done o _ between none.1 finishes)
        table_found o (inr did) finishes = text_found form.makes refl o did.0 did.1 did.2 finishes

      import_found : ArePerformed g → (token : List ℕ) (progress : Bool) (o : Outcome)
          → ImportsFile over_files reader reads writer writes faulter fails Before After token o
          → Finishes faulter.contents fails.failed o status between y.faults
          → FoundIn (task.Import token progress) society c left
      import_found law token progress (Ok done) did finishes =
          let all = did.imported in
          let same : all.1 ≡ report all.2.0.forest = all.2.1 in
          file_told law token progress all.0 all.2.0
          (subst (λ (said : List ReportLine). Tells (run (task.Import token progress)) (import_text all.0 said)) same
          (tells (task.Import token progress) (import_text all.0 all.1) all.3))
      import_found law token progress (Err t) did finishes = elim did.refused [
        | inl none ↦ elim none.0 [
          | inl all ↦ file_untold law token progress t.refusal all (nothing_told none.1) (undone finishes.0)
          | inr others ↦ elim others [
            | inl silent ↦ file_told law token progress silent.0 silent.1
                (tells_none (task.Import token progress) (import_text silent.0 (report silent.1.forest))
                (nothing_told none.1) (undone finishes.0))
            | inr no_file ↦ keeps_none (task.Import token progress) society c left
                (acts_none (task.Import token progress) c (nothing_told none.1) (undone finishes.0))
                (inl (same_archive no_file.0))
          ]
        ]
        | inr part ↦
            let same : part.1 ≡ report part.4.0.forest = part.4.1 in
            file_told law token progress part.0 part.4.0
            (subst (λ (said : List ReportLine). Tells (run (task.Import token progress)) (import_text part.0 said)) same
            (tells_part (task.Import token progress) (import_text part.0 part.1) part.5.written (undone finishes.0)))
      ]

      export_found : FileComesBack → (r : Plain)
          → Exports over_files reader reads writer writes faulter fails Before After r
          → Finishes faulter.contents fails.failed (as_text r) status between y.faults
          → FoundIn task.Export society c left
      export_found back (Ok done) did finishes =
          let was = only_read (λ name k. IsWhole Got Has (export_text name k)) did.written in
          keeps_none task.Export society c left (refl, export_back back was.0 was.1) (inl was.1)
      export_found back (Err kind) did finishes =
          let was = only_read _ did.begun in
          keeps_none task.Export society c left (refl, λ done. absurd (undone finishes.0 done)) (inl was.1)

      -- ---- tasks that only show: the archive is left as it is
      published : (today : ℤ) (r : Plain) → Publishes over_files reader reads writer writes faulter fails Before After
          today r
          → IsArchive society c left
      published today (Ok done) did = (only_read _ did.written).1
      published today (Err kind) did = (only_read _ did.begun).1

      plain_exported : (r : Plain) → ExportsPlain over_files reader reads writer writes faulter fails Before After r
          → IsArchive society c left
      plain_exported (Ok done) did = (only_read _ did.written.2).1
      plain_exported (Err kind) did = (only_read _ did.begun).1

      plain_published : (today : ℤ) (r : Plain)
          → PublishesPlain over_files reader reads writer writes faulter fails Before After today r
          → IsArchive society c left
      plain_published today (Ok done) did = (only_read _ did.written.2).1
      plain_published today (Err kind) did = (only_read _ did.begun).1

      sheet_printed : (sheet : Sheet) (today : ℤ) (r : Plain)
          → PrintsSheet over_files reader reads writer writes faulter fails Before After sheet today r
          → IsArchive society c left
      sheet_printed sheet today (Ok done) did = (only_read _ did.written).1
      sheet_printed sheet today (Err kind) did = (only_read _ did.refused).1

      shelved : (today : ℤ) (o : Outcome) (shown : Option Content)
          → Shelves (file_state taken.conn) (file_state new.conn) today o shown → IsArchive society c left
      shelved today (Ok done) (Some shown) did = (only_read _ did.0).1
      shelved today (Err t) None did = (only_read _ did).1
      shelved today (Ok done) None did = absurd did
      shelved today (Err t) (Some shown) did = absurd did

      audited : (o : Outcome) → Audits over_files reader reads writer writes faulter fails Before After o
          → IsArchive society c left
      audited o did =
          let audit : IsAudit (file_state taken.conn) did.0 (file_state new.conn) = did.2 clean in
          let stays = audit.reads.stays in
          let had_it = (held.has stays.clean society c tables holds had).0 in
          (had_it.0, stays.crash had_it.0 had_it.1 left may, had_it.2)

      same_connection : new.conn ≡ taken.conn → IsArchive society c left
      same_connection same =
          let was_clean = subst (λ (h : Held (FileStore D g)). HasCleanDisk (file_state h)) same clean in
          let was_left = subst (λ (h : Held (FileStore D g)). (file_state h).may_leave left) same may in
          let found = (held.has was_clean society c tables holds had).2 left was_left in
          subst (λ (k : Content). IsArchive society k left) found.1 found.2

      days_listed : (first last : ℤ) (words : Bool) (r : Plain)
          → ListsDays over_files reader reads writer writes faulter fails Before After words first last r
          → IsArchive society c left
      days_listed first last words (Ok done) did = (only_read _ did.written.1).1
      days_listed first last words (Err kind) did = elim did.cut [
        | inl reversed ↦ same_connection reversed.1
        | inr cut ↦ (only_read _ cut.1).1
      ]

      text_printed : (text : Content → Option (List ℕ)) (r : Plain)
          → PrintsText over_files reader reads writer writes faulter fails Before After text r
          → IsArchive society c left
      text_printed text r did =
          let read = did.ended clean in
          let had_it = (held.has read.0 society c tables holds had).0 in
          (had_it.0, (read.1 had_it.0 c had_it.1 (seen_of had_it.2)).1 left may, had_it.2)

      history_printed : (n : ℕ) (r : Plain)
          → PrintsHistory over_files reader reads writer writes faulter fails Before After n r
          → IsArchive society c left
      history_printed n r did =
          let read = did.ended clean in
          let had_it = (held.has read.0 society c tables holds had).0 in
          (had_it.0, (read.1 had_it.0 c had_it.1 (seen_of had_it.2)).1 left may, had_it.2)

      table_checked : (source : NumberWord) (form : TableForm) (o : Outcome)
          → ChecksTable over_files reader reads writer writes faulter fails Before After source form o
          → IsArchive society c left
      table_checked source form o (inl none) = same_archive none.3
      table_checked source form o (inr did) =
          let read = did.2.ended clean in
          let had_it = (held.has read.0 society c tables holds had).0 in
          (had_it.0, (read.1 had_it.0 c had_it.1 (seen_of had_it.2)).1 left may, had_it.2)

      -- ---- each task
      pub found_by : ArePerformed g → FileComesBack → (t : Task) (o : Outcome) (shown : Option Content)
          → Does over_files reader reads writer writes faulter fails Before After t o shown
          → Concludes faulter.contents fails.failed t o status between y.faults → FoundIn t society c left
      found_by law back task.Apply o shown did finishes =
          apply_found law did.0.0 did.0.2
          (subst (λ (same : Outcome). Finishes faulter.contents fails.failed same status between y.faults) did.0.1
          finishes)
      found_by law back task.ApplyUntilRefused o shown did finishes =
          until_found law did.0.0 did.0.2
          (subst (λ (same : Outcome). Concludes faulter.contents fails.failed task.ApplyUntilRefused same status
          between y.faults) did.0.1 finishes)
      found_by law back (task.ApplyAsExpected expected stops) o shown did finishes =
          expected_found law expected stops did.0.0 did.0.2
          (subst (λ (same : Outcome). Concludes faulter.contents fails.failed (task.ApplyAsExpected expected stops) same
          status between y.faults) did.0.1 finishes)
      found_by law back (task.Entries token source) o shown did finishes =
          enter_found law token source o did.0 finishes
      found_by law back (task.EnterTable token source form) o shown did finishes =
          table_found law token source form o did.0 finishes
      found_by law back (task.CheckTable source form) o shown did finishes =
          keeps_none (task.CheckTable source form) society c left refl (inl (table_checked source form o did.0))
      found_by law back (task.Import token progress) o shown did finishes =
          import_found law token progress o did.0 finishes
      found_by law back task.Export o shown did finishes =
          export_found back did.0.0 did.0.2
          (subst (λ (same : Outcome). Finishes faulter.contents fails.failed same status between y.faults) did.0.1
          finishes)
      found_by law back (task.ExportPublic today) o shown did finishes =
          keeps_none (task.ExportPublic today) society c left refl (inl (published today did.0.0 did.0.2))
      found_by law back task.ExportPlain o shown did finishes =
          keeps_none task.ExportPlain society c left refl (inl (plain_exported did.0.0 did.0.2))
      found_by law back (task.ExportPublicPlain today) o shown did finishes =
          keeps_none (task.ExportPublicPlain today) society c left refl (inl (plain_published today did.0.0 did.0.2))
      found_by law back (task.Sheet sheet today) o shown did finishes =
          keeps_none (task.Sheet sheet today) society c left refl (inl (sheet_printed sheet today did.0.0 did.0.2))
      found_by law back (task.Library today) o shown did finishes =
          keeps_none (task.Library today) society c left refl (inl (shelved today o shown did.0))
      found_by law back task.Audit o shown did finishes =
          keeps_none task.Audit society c left refl (inl (audited o did.0))
      found_by law back (task.Days first last words) o shown did finishes =
          keeps_none (task.Days first last words) society c left refl
          (inl (days_listed first last words did.0.0 did.0.2))
      found_by law back (task.List source listing) o shown did finishes =
          keeps_none (task.List source listing) society c left refl
          (inl (text_printed (list_of source listing) did.0.0 did.0.2))
      found_by law back (task.Show numbers) o shown did finishes =
          keeps_none (task.Show numbers) society c left refl
          (inl (text_printed (λ k. shown_text k numbers.items) did.0.0 did.0.2))
      found_by law back (task.History n) o shown did finishes =
          keeps_none (task.History n) society c left refl (inl (history_printed n did.0.0 did.0.2))
