-- How each task ends on an archive that is open: what was read and written, the archive before and after, also after a
-- crash, and the exit status; and on one that is lost. Rules of our own.
use Rattle.std.specs.Prelude.{
  ◌≡◌,
  ◌⊎◌,
  ◌≤ℤ◌,
  ℕ,
  ℤ,
  Bool,
  true,
  false,
  length,
  List,
  Option,
  None,
  Result,
  Ok,
  Err,
  IfErr,
  IfOk,
  OnErr,
  OnOk,
}
use Rattle.std.specs.FinMap.{keys}
use Rattle.std.specs.Io.KnownBytes.{Appends, Keeps}
use Rattle.std.specs.declared.io.Read as read
use Rattle.std.specs.declared.io.Write as write
use Rattle.sqlite.specs.Held.{state}
use Rattle.sqlite.specs.State.{HasCleanDisk, State}
use Rattle.sqlite_trees.specs.declared.store.Store.{Ghosts}
use Rattle.table_looks.specs.Judging.{Audit, Judges, Tells, without_fault}
use Rattle.archive_output.specs.Exporting.{IsPart, export_text}
use Rattle.archive_output.specs.Reading.{OnOpen, OnlyReads, OnlyReadsAny}
use Rattle.archive_tables.specs.Checks.{EndsChecking, check_by}
use Rattle.archive_tables.specs.Ends.{EndsWriting, OnRead, OnRows}
use Rattle.archive_tables.specs.Remembering.{EndsHistory}
use Rattle.archive_tables.specs.Texts.{list_of, shown_text}
use Rattle.archive_tables.specs.Entering.{EntersPage}
use Rattle.archive_tables.specs.Making.{EntersPlaced}
use Rattle.archive_tables.specs.declared.making.MadePlace.{MadePlace}
use Rattle.archive_tables.specs.RowBatches.{Enters, IsNoBatch}
use Rattle.archive_state.specs.Content.{Content}
use Rattle.archive_state.specs.Looks.{is_failure}
use Rattle.expected_answers.specs.Expected.{left}
use Rattle.expected_answers.specs.declared.expected.Expected.{Expected}
use Rattle.expected_rows.specs.Expecting.{AppliedAsExpected, EndedAsExpected}
use Rattle.request_csv.specs.Input.{row_bytes}
use Rattle.row_references.specs.declared.words.NumberWord.{NumberWord}
use Rattle.archive_output.specs.Ends.{AreCut, AreReversed, AreWritten}
use Rattle.devices.specs.Devices.{Rose}
use Rattle.devices.specs.declared.device.Device as device
use Rattle.archive_input.specs.Importing.{ImportsAll, IsUntold, TellsImported}
use Rattle.archive_input.specs.Telling.{import_text}
use Rattle.gedcom_export.specs.Ends.{IsWhole}
use Rattle.page_entries.specs.declared.dates.DateOrder.{DateOrder}
use Rattle.receipts.specs.declared.answer.Answer.{Answer}
use Rattle.receipts.specs.declared.report.ReportLine.{ReportLine}
use Rattle.record_text.specs.declared.refusal.Refusal.{Refusal}
use Rattle.record_text.specs.declared.refusal.RefusalKind.{RefusalKind}
use Rattle.record_text.specs.declared.refusal.RefusalKind.TheVariants.{ReadFailed, Reopen, Storage, WriteFailed}
use Rattle.archive_output.specs.Showing.{OfSound}
use Rattle.archive_output.specs.Plain.{IsPartPlainPublished, IsPlainPart, IsPlainPublished, IsPlainWhole}
use Rattle.archive_output.specs.Writing.{IsPartPublished, IsPublished, IsSheetRefused, IsSheetWritten}
use Rattle.archive_output.specs.declared.sheet.Sheet.{Sheet}
use Rattle.store.specs.Calls.{Reads}
use Rattle.store.specs.Histories.{has_broken}
use Rattle.store.specs.Telling.{TellsImport}
use Rattle.archive_input.specs.RowByRow.{AppliedInTurn, EndedInTurn, Moment as RowMoment}
use Rattle.archive_input.specs.Stopping.{AppliedUntilRefused, EndedUntilRefused}
use Rattle.tasks.specs.Checking.{Checking, IsText, IsUnread as IsUnreadTable, SaysFound, as_checked}
use Rattle.tasks.specs.Counts.{SaysCount, SaysPart}
use Rattle.tasks.specs.Expecting.{Expecting, SaysUnexpected, as_expected}
use Rattle.tasks.specs.Faults.{IsReported}
use Rattle.tasks.specs.Moments.{Moment}
use Rattle.tasks.specs.Parts.{IsPrintedPart, PrintsAudit, Shelves}
use Rattle.tasks.specs.Status.{Outcome, Plain, as_text, is_80, placeless_text}
use Rattle.tasks.specs.Stopping.{Concludes, Stopping, as_stopped}
use Rattle.tasks.specs.Tables.{PageEntering, SaysPage, SaysPlaces}
use Rattle.tasks.specs.Texts.{made_text}
use Rattle.tasks.specs.declared.task.TableForm.{TableForm}
use Rattle.tasks.specs.declared.task.Task.{Task}
use Rattle.tasks.specs.declared.task.Task.TheVariants as task

-- the number is that of the records
abbrev pub IsCount : List ℕ → Content → ℕ → Type 0
IsCount society c n = n ≡ length (keys c.records)

-- tables are judged so, the flaw that is named is so, and they stay
pub record IsAudit (old : State) (audit : Audit) (new : State) : Type 0 where
  pub judges : Judges old (without_fault audit)
  pub tells : Tells old audit
  pub reads : Reads IsCount old (without_fault audit) new

module _ {S R W F : Type 0} (g : Ghosts S) (reader : read.Ghosts R) (reads : device.Ghosts R) (writer : write.Ghosts W)
    (writes : device.Ghosts W) (faulter : write.Ghosts F) (fails : device.Ghosts F) (a b : Moment g R W F) where
  -- ---- the streams and the archive between the two moments
  abbrev pub HasReadFailed : Type 0
  HasReadFailed = Rose (reads.failed a.input) (reads.failed b.input)

  abbrev pub HasWriteFailed : Type 0
  HasWriteFailed = Rose (writes.failed a.output) (writes.failed b.output)

  abbrev pub IsUnread : Type 0
  IsUnread = b.input ≡ a.input

  abbrev pub IsUnwritten : Type 0
  IsUnwritten = b.output ≡ a.output

  -- nothing was said on the faults
  abbrev pub IsQuiet : Type 0
  IsQuiet = b.faults ≡ a.faults

  -- the faults got the text, whole but where they failed, by their count
  abbrev pub Reports : List ℕ → Type 0
  Reports text = IsReported faulter.contents fails.failed a.faults b.faults text

  -- the output got the text
  abbrev pub Prints : List ℕ → Type 0
  Prints text = Appends (writer.contents a.output) (writer.contents b.output) text

  -- nothing was written
  abbrev pub PrintsNothing : Type 0
  PrintsNothing = Keeps (writer.contents a.output) (writer.contents b.output)

  -- of the text a prefix was written
  abbrev pub PrintsPart : List ℕ → RefusalKind → Type 0
  PrintsPart text kind = IsPrintedPart text kind (writer.contents a.output) (writer.contents b.output) HasWriteFailed

  -- P of the society and of what the archive held, which it still holds, also after a crash
  abbrev pub OnHeld : (List ℕ → Content → Type 0) → Type 0
  OnHeld P = OnOpen (state g a.archive.conn) (state g b.archive.conn) P

  -- the archive is only read, whatever its tables are, and is lost only where 80 is reported
  pub record LooksAt (told : Bool) : Type 0 where
    pub stays : OnlyReadsAny g a.archive b.archive
    pub lost : b.archive.is_lost ≡ told

  -- a device is blamed only where it failed in this call, by its count
  abbrev pub IsBlamed : RefusalKind → Type 0
  IsBlamed kind = (kind ≡ ReadFailed → HasReadFailed) × (kind ≡ WriteFailed → HasWriteFailed)

  -- ---- rows of requests
  abbrev pub RowsAt : Moment g R W F → RowMoment g W F
  RowsAt m = record { archive = m.archive; output = m.output; faults = m.faults }

  pub record Applies (r : Plain) : Type 0 where
    pub applied : OnOk r (AppliedInTurn g writer.contents faulter.contents (row_bytes (reader.remaining a.input))
        (RowsAt a) (RowsAt b))
    pub ended : IfErr r (λ kind. EndedInTurn g writer.contents faulter.contents kind
        (row_bytes (reader.remaining a.input)) (RowsAt a) (RowsAt b))
    pub blamed : IfErr r IsBlamed

  -- the rows up to the first that is refused, which is reported as any
  pub record AppliesUntilRefused (r : Stopping) : Type 0 where
    pub applied : IfOk r (λ stop. AppliedUntilRefused g writer.contents faulter.contents stop
        (row_bytes (reader.remaining a.input)) (RowsAt a) (RowsAt b))
    pub ended : IfErr r (λ kind. EndedUntilRefused g writer.contents faulter.contents kind
        (row_bytes (reader.remaining a.input)) (RowsAt a) (RowsAt b))
    pub blamed : IfErr r IsBlamed

  -- the rows as long as each is answered as is expected, and what is said of the one that would not be
  pub record AppliesAsExpected (expected : Expected) (stops : Bool) (r : Expecting) : Type 0 where
    pub between : F
    pub applied : IfOk r (λ ending. AppliedAsExpected g writer.contents faulter.contents stops (left expected) ending
        (row_bytes (reader.remaining a.input)) (RowsAt a) (record (RowsAt b) { faults = between }))
    pub ended : IfErr r (λ kind. EndedAsExpected g writer.contents faulter.contents stops (left expected) kind
        (row_bytes (reader.remaining a.input)) (RowsAt a) (record (RowsAt b) { faults = between }))
    pub said : SaysUnexpected faulter.contents fails.failed r between b.faults
    pub blamed : IfErr r IsBlamed

  -- ---- a batch of register entries, under a token, of a source whose number a word gives
  abbrev pub Batch : List ℕ → NumberWord → Result Answer Refusal → Type 0
  Batch token source o = Enters g token source (row_bytes (reader.remaining a.input)) a.archive o b.archive

  -- the rows are no batch, and the archive is as it was
  abbrev pub NoBatch : Refusal → Type 0
  NoBatch e = (b.archive ≡ a.archive) × IsNoBatch (row_bytes (reader.remaining a.input)) e HasReadFailed

  -- all rows were entered, and how many was printed; or why not: they are no batch, or it was refused, and nothing is
  -- printed; or it was entered, and of its line a prefix is printed
  pub record EntersBatch (token : List ℕ) (source : NumberWord) (outcome : Outcome) : Type 0 where
    pub entered : OnOk outcome ((answer : Answer) × Batch token source (Ok answer) × Prints (made_text answer))
    pub refused : IfErr outcome (λ t. ((Batch token source (Err t.refusal) ⊎ NoBatch t.refusal) × PrintsNothing)
        ⊎ ((answer : Answer) × (kind : RefusalKind) × (t ≡ placeless_text kind) × Batch token source (Ok answer)
        × PrintsPart (made_text answer) kind))

  -- ---- a table that is checked
  -- the input was not read, and the archive is as it was
  abbrev pub IsNoTable : Outcome → Type 0
  IsNoTable outcome = (kind : RefusalKind) × (outcome ≡ Err (placeless_text kind))
      × IsUnreadTable (reader.remaining a.input) HasReadFailed kind × (b.archive ≡ a.archive) × IsUnwritten × IsQuiet

  -- this text was looked over: a line for all that is wrong or doubtful was printed, or a prefix of that; or the
  -- faults got why they are no table
  pub record LooksOver (source : NumberWord) (form : TableForm) (text : List ℕ) (outcome : Outcome) : Type 0 where
    pub found : Checking
    pub is : outcome ≡ as_checked found
    pub ended : OnRead (state g a.archive.conn) (state g b.archive.conn) (λ c. EndsChecking found
        (writer.contents a.output) (writer.contents b.output) (check_by c source form.order form.makes text))
    pub said : SaysFound faulter.contents fails.failed found a.faults b.faults
    pub unread : IfErr found (λ kind. is_failure kind ≡ true → PrintsNothing)
    pub blamed : IfErr found (λ kind. kind ≡ WriteFailed → HasWriteFailed)
    pub stays : OnlyReads g a.archive b.archive
    pub lost : b.archive.is_lost ≡ has_broken found

  -- the table of the input was looked over, whether the archive is sound or not; or it was not read
  abbrev pub ChecksTable : NumberWord → TableForm → Outcome → Type 0
  ChecksTable source form outcome = IsNoTable outcome
      ⊎ ((text : List ℕ) × IsText form.set (reader.remaining a.input) text × LooksOver source form text outcome)

  -- ---- a table that is entered, under a token
  -- this was made of it, or why it was refused
  abbrev pub PageAt : List ℕ → NumberWord → Option DateOrder → List ℕ → PageEntering → Type 0
  PageAt token source order text r = EntersPage g token source order text a.archive r b.archive

  -- this text was entered, all rows or none, and it was said what it has come to
  abbrev pub EntersText : List ℕ → NumberWord → Option DateOrder → List ℕ → Outcome → Type 0
  EntersText token source order text outcome =
      (r : PageEntering) × PageAt token source order text r
      × SaysPage writer.contents writes.failed faulter.contents fails.failed outcome a.output b.output a.faults
      b.faults r

  -- the same, where the places that it lacks were made first, and the faults got a line for each of them
  pub record MakesText (token : List ℕ) (source : NumberWord) (order : Option DateOrder) (text : List ℕ)
      (outcome : Outcome) : Type 0 where
    pub made : List MadePlace
    pub r : PageEntering
    pub entered : EntersPlaced g token source order text a.archive made r b.archive
    pub between : F
    pub told : SaysPlaces faulter.contents fails.failed a.faults between made
    pub said : SaysPage writer.contents writes.failed faulter.contents fails.failed outcome a.output b.output between
        b.faults r

  abbrev pub EntersBy : Bool → List ℕ → NumberWord → Option DateOrder → List ℕ → Outcome → Type 0
  EntersBy false token source order text outcome = EntersText token source order text outcome
  EntersBy true token source order text outcome = MakesText token source order text outcome

  -- the table of the input was entered, or refused; or it was not read
  abbrev pub EntersTable : List ℕ → NumberWord → TableForm → Outcome → Type 0
  EntersTable token source form outcome = IsNoTable outcome
      ⊎ ((text : List ℕ) × IsText form.set (reader.remaining a.input) text
      × EntersBy form.makes token source form.order text outcome)

  -- ---- a file, under a token
  abbrev pub FileWhole : List ℕ → Answer → List ReportLine → Type 0
  FileWhole token answer report = ImportsAll g token (reader.remaining a.input) a.archive answer report b.archive

  -- why there is no report
  abbrev pub FileUntold : List ℕ → Refusal → Type 0
  FileUntold token e = IsUntold g token (reader.remaining a.input) a.archive e b.archive HasReadFailed

  -- the file was imported, and what was made was printed, with its report; or why not, and nothing is printed; or it
  -- was, and of that a prefix is printed
  pub record ImportsFile (token : List ℕ) (outcome : Outcome) : Type 0 where
    pub imported : OnOk outcome ((answer : Answer) × (report : List ReportLine) × FileWhole token answer report
        × Prints (import_text answer report))
    pub refused : IfErr outcome (λ t. (FileUntold token t.refusal × PrintsNothing)
        ⊎ ((answer : Answer) × (report : List ReportLine) × (kind : RefusalKind) × (t ≡ placeless_text kind)
        × FileWhole token answer report × PrintsPart (import_text answer report) kind))

  -- what an import says on the faults: nothing; or with `progress` the lines of its counts, or prefixes of these, and
  -- where it is done all that are due
  abbrev pub SaysHowFar : Bool → List ℕ → Outcome → Type 0
  SaysHowFar false token outcome = IsQuiet
  SaysHowFar true token outcome = TellsImport (SaysPart faulter.contents fails.failed) a.faults b.faults
      × OnOk outcome (TellsImported g (SaysCount faulter.contents fails.failed) token (reader.remaining a.input)
      a.archive b.archive a.faults b.faults)

  -- ---- texts of the archive, which is not changed
  -- all of it as a file, under the name of its society; or a prefix of that
  pub record Exports (r : Plain) : Type 0 where
    pub written : OnOk r (OnHeld (λ society c. IsWhole (writer.contents a.output) (writer.contents b.output)
        (export_text society c)))
    pub begun : IfErr r (λ kind. OnHeld (λ society c. IsPart kind (writer.contents a.output) (writer.contents b.output)
        (export_text society c)))
    pub blamed : IfErr r (λ kind. kind ≡ WriteFailed → HasWriteFailed)
    pub stays : OnlyReads g a.archive b.archive
    pub told : IfErr r (λ kind. kind ≡ Storage → b.archive.is_lost ≡ true)

  -- P of a sound archive, which the tables mean, whoever wrote them
  abbrev pub OnSound : (Content → Type 0) → Type 0
  OnSound P = OfSound (state g a.archive.conn) (state g b.archive.conn) P

  -- where what is stored could not be read, nothing is written
  abbrev pub IsUntouched : Plain → Type 0
  IsUntouched r = IfErr r (λ kind. is_failure kind ≡ true → PrintsNothing)

  -- what may be shown of it on a day as a file; or a prefix of that. It is written only of an archive that is sound,
  -- whoever wrote its tables
  pub record Publishes (today : ℤ) (r : Plain) : Type 0 where
    pub written : OnOk r (OnHeld (IsPublished (writer.contents a.output) (writer.contents b.output) today))
    pub begun : IfErr r (λ kind. OnHeld (IsPartPublished kind (writer.contents a.output) (writer.contents b.output)
        today))
    pub sound : OnOk r (OnSound (λ c. (society : List ℕ) × IsPublished (writer.contents a.output)
        (writer.contents b.output) today society c))
    pub unread : IsUntouched r
    pub blamed : IfErr r (λ kind. kind ≡ WriteFailed → HasWriteFailed)
    pub looks : LooksAt (has_broken r)

  -- its plain archive as a file, under the name of its society, and on the faults what that leaves out; or a prefix of
  -- the file, and nothing on the faults
  pub record ExportsPlain (r : Plain) : Type 0 where
    pub written : OnOk r ((left_out : List ℕ) × Reports left_out
        × OnHeld (IsPlainWhole (writer.contents a.output) (writer.contents b.output) left_out))
    pub quiet : OnErr r IsQuiet
    pub begun : IfErr r (λ kind. OnHeld (IsPlainPart kind (writer.contents a.output) (writer.contents b.output)))
    pub unread : IsUntouched r
    pub blamed : IfErr r (λ kind. kind ≡ WriteFailed → HasWriteFailed)
    pub looks : LooksAt (has_broken r)

  -- the same of what may be shown of it on a day. It is written only of an archive that is sound, whoever wrote its
  -- tables
  pub record PublishesPlain (today : ℤ) (r : Plain) : Type 0 where
    pub written : OnOk r ((left_out : List ℕ) × Reports left_out
        × OnHeld (IsPlainPublished (writer.contents a.output) (writer.contents b.output) left_out today)
        × OnSound (λ c. (society : List ℕ) × IsPlainPublished (writer.contents a.output) (writer.contents b.output)
        left_out today society c))
    pub quiet : OnErr r IsQuiet
    pub begun : IfErr r (λ kind. OnHeld (IsPartPlainPublished kind (writer.contents a.output)
        (writer.contents b.output) today))
    pub unread : IsUntouched r
    pub blamed : IfErr r (λ kind. kind ≡ WriteFailed → HasWriteFailed)
    pub looks : LooksAt (has_broken r)

  -- a sheet of what may be shown of it on a day; or why not. It is written only of an archive that is sound
  pub record PrintsSheet (sheet : Sheet) (today : ℤ) (r : Plain) : Type 0 where
    pub written : OnOk r (OnHeld (λ _ c. IsSheetWritten (writer.contents a.output) (writer.contents b.output) sheet
        today c))
    pub refused : IfErr r (λ kind. OnHeld (λ _ c. IsSheetRefused kind (writer.contents a.output)
        (writer.contents b.output) sheet today c))
    pub sound : OnOk r (OnSound (λ c. IsSheetWritten (writer.contents a.output) (writer.contents b.output) sheet
        today c))
    pub unread : IsUntouched r
    pub blamed : IfErr r (λ kind. kind ≡ WriteFailed → HasWriteFailed)
    pub looks : LooksAt (has_broken r)

  -- what is between two days; or the days are reversed, and the connection is as it was; or a prefix of the text
  pub record ListsDays (words : Bool) (first last : ℤ) (r : Plain) : Type 0 where
    pub written : OnOk r ((first ≤ℤ last) × OnHeld (λ _ c. AreWritten words first last (writer.contents a.output)
        (writer.contents b.output) c))
    pub cut : IfErr r (λ kind. (AreReversed kind first last (writer.contents a.output) (writer.contents b.output)
        × (b.archive.conn ≡ a.archive.conn))
        ⊎ ((first ≤ℤ last) × OnHeld (λ _ c. AreCut kind words first last (writer.contents a.output)
        (writer.contents b.output) c)))
    pub unread : IsUntouched r
    pub blamed : IfErr r (λ kind. kind ≡ WriteFailed → HasWriteFailed)
    pub looks : LooksAt (has_broken r)

  -- a text of it, whether it is sound or not; or a prefix of that, or none
  pub record PrintsText (text : Content → Option (List ℕ)) (r : Plain) : Type 0 where
    pub ended : OnRead (state g a.archive.conn) (state g b.archive.conn)
        (λ c. EndsWriting r (writer.contents a.output) (writer.contents b.output) (text c))
    pub unread : IsUntouched r
    pub blamed : IfErr r (λ kind. kind ≡ WriteFailed → HasWriteFailed)
    pub stays : OnlyReads g a.archive b.archive
    pub lost : b.archive.is_lost ≡ has_broken r

  -- the history of a number, by the values of before of its rows, whether it is sound or not; or a prefix of that, or
  -- none
  pub record PrintsHistory (n : ℕ) (r : Plain) : Type 0 where
    pub ended : OnRows (state g a.archive.conn) (state g b.archive.conn)
        (EndsHistory r (writer.contents a.output) (writer.contents b.output) n)
    pub unread : IsUntouched r
    pub blamed : IfErr r (λ kind. kind ≡ WriteFailed → HasWriteFailed)
    pub stays : OnlyReads g a.archive b.archive
    pub lost : b.archive.is_lost ≡ has_broken r

  -- ---- an audit
  -- the archive is sound, and how many records it has was printed; or it is not, or could not be looked at
  abbrev pub Audits : Outcome → Type 0
  Audits outcome = (audit : Audit) × LooksAt (has_broken (without_fault audit)) × (HasCleanDisk (state g b.archive.conn)
      → IsAudit (state g a.archive.conn) audit (state g b.archive.conn))
      × PrintsAudit writer.contents writes.failed a.output b.output audit outcome × OnOk outcome IsQuiet

  -- ---- each task
  -- a task that is refused without a place
  abbrev pub Ended : Outcome → (Plain → Type 0) → Type 0
  Ended outcome P = (r : Plain) × (outcome ≡ as_text r) × P r

  -- what was done by its outcome, before the line of a refusal, with what is to be shown
  abbrev pub Does : Task → Outcome → Option Content → Type 0
  Does task.Apply outcome shown = Ended outcome Applies × (shown ≡ None)
  Does task.ApplyUntilRefused outcome shown =
      ((r : Stopping) × (outcome ≡ as_stopped r) × AppliesUntilRefused r) × (shown ≡ None)
  Does (task.ApplyAsExpected expected stops) outcome shown =
      ((r : Expecting) × (outcome ≡ as_expected r) × AppliesAsExpected expected stops r) × (shown ≡ None)
  Does (task.Entries token source) outcome shown = EntersBatch token source outcome × IsQuiet × (shown ≡ None)
  Does (task.CheckTable source form) outcome shown = ChecksTable source form outcome × (shown ≡ None)
  Does (task.EnterTable token source form) outcome shown = EntersTable token source form outcome × (shown ≡ None)
  Does (task.Import token progress) outcome shown = ImportsFile token outcome × SaysHowFar progress token outcome
      × (shown ≡ None)
  Does task.Export outcome shown = Ended outcome Exports × IsUnread × IsQuiet × (shown ≡ None)
  Does (task.ExportPublic today) outcome shown = Ended outcome (Publishes today) × IsUnread × IsQuiet × (shown ≡ None)
  Does task.ExportPlain outcome shown = Ended outcome ExportsPlain × IsUnread × (shown ≡ None)
  Does (task.ExportPublicPlain today) outcome shown = Ended outcome (PublishesPlain today) × IsUnread × (shown ≡ None)
  Does (task.Sheet sheet today) outcome shown = Ended outcome (PrintsSheet sheet today) × IsUnread × IsQuiet
      × (shown ≡ None)
  Does (task.Library today) outcome shown =
      Shelves (state g a.archive.conn) (state g b.archive.conn) today outcome shown × LooksAt (is_80 outcome) × IsUnread
      × IsUnwritten × IsQuiet
  Does task.Audit outcome shown = Audits outcome × IsUnread × (shown ≡ None)
  Does (task.Days first last words) outcome shown = Ended outcome (ListsDays words first last) × IsUnread × IsQuiet
      × (shown ≡ None)
  Does (task.List source listing) outcome shown = Ended outcome (PrintsText (list_of source listing)) × IsUnread
      × IsQuiet × (shown ≡ None)
  Does (task.Show numbers) outcome shown = Ended outcome (PrintsText (λ c. shown_text c numbers.items)) × IsUnread
      × IsQuiet × (shown ≡ None)
  Does (task.History n) outcome shown = Ended outcome (PrintsHistory n) × IsUnread × IsQuiet × (shown ≡ None)

  -- ---- an archive that was lost before
  -- 81: nothing is read, written, changed or shown
  abbrev pub MustReopen : Outcome → Option Content → Type 0
  MustReopen outcome shown = (outcome ≡ Err (placeless_text Reopen)) × (shown ≡ None) × (b ≡ a)

-- a task was done, unless the archive was lost before, and then its status was made of its outcome, with the line of a
-- refusal on the faults, where they have none of it yet
module _ {S R W F : Type 0} (g : Ghosts S) (reader : read.Ghosts R) (reads : device.Ghosts R) (writer : write.Ghosts W)
    (writes : device.Ghosts W) (faulter : write.Ghosts F) (fails : device.Ghosts F) where
  pub record Ends (task : Task) (a b : Moment g R W F) (status : ℕ) (shown : Option Content) : Type 0 where
    pub outcome : Outcome
    pub between : F
    pub does : a.archive.is_lost ≡ false → Does g reader reads writer writes faulter fails a
        (record { archive = b.archive; input = b.input; output = b.output; faults = between }) task outcome shown
    pub reopen : a.archive.is_lost ≡ true → MustReopen g reader reads writer writes faulter fails a
        (record { archive = b.archive; input = b.input; output = b.output; faults = between }) outcome shown
    pub finishes : Concludes faulter.contents fails.failed task outcome status between b.faults
