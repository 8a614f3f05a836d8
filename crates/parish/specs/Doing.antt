-- What the program does, by what its words ask for: on the file of an archive, on the three streams, and on a room that
-- is to be served.
use Rattle.std.specs.Prelude.{
  ◌≡◌,
  ◌⊎◌,
  ◌||◌,
  ℕ,
  Bool,
  true,
  false,
  List,
  Option,
  None,
  Err,
  IfErr,
  OnOk,
  option_map,
  IsSome,
  is_some,
  string_bytes,
}
use Rattle.std.specs.declared.io.Read as read
use Rattle.std.specs.declared.io.Write as write
use Rattle.sqlite_disk.specs.declared.Disk as disk
use Rattle.sqlite_wal.specs.Recovery.{Image}
use Rattle.archive_runs.specs.Tasks.{EndsOnFile}
use Rattle.archive_files.specs.Made.{IsMadeIn, Unmade}
use Rattle.archive_state.specs.Content.{Content}
use Rattle.command_line.specs.Asking.{Asks, AsksForHelp, name_of}
use Rattle.command_line.specs.declared.tasks.Asked.{Asked}
use Rattle.command_line.specs.declared.tasks.Asked.TheVariants.{
  Apply,
  Audit,
  Check,
  CheckAll,
  CheckTable,
  Completions,
  Convert,
  Days,
  EnterTable,
  Entries,
  Export,
  ExportPlain,
  ExportPublic,
  ExportPublicPlain,
  Find,
  History,
  Import,
  Init,
  List as ListAsked,
  Norm,
  Review,
  Serve,
  Sheet,
  Show,
  Text,
}
use Rattle.archive_files.specs.DatabaseOpening.{IsUntouched}
use Rattle.archive_files.specs.declared.left.Left.{Left}
use Rattle.devices.specs.Devices.{Rose}
use Rattle.devices.specs.declared.device.Device as device
use Rattle.expected_answers.specs.declared.expected.Expected.{Expected}
use Rattle.parish.specs.Converting.{Converts, set_of}
use Rattle.parish.specs.Ends.{Checks, ChecksAll, Normalises, Shows}
use Rattle.parish.specs.Lists.{find_task, list_task, review_task}
use Rattle.parish.specs.Reporting.{ImportsReported}
use Rattle.parish.specs.Rooms.{IsRoomOf, IsSheetOf}
use Rattle.parish.specs.Rows.{apply_task}
use Rattle.parish.specs.Tables.{entering_task, table_task}
use Rattle.parish.specs.declared.visits.Visits.{Visits}
use Rattle.receipts.specs.Tokens.{IsToken}
use Rattle.record_text.specs.declared.refusal.RefusalKind.{RefusalKind}
use Rattle.record_text.specs.declared.refusal.RefusalKind.TheVariants.{BadToken, OutOfMemory, ReadFailed}
use Rattle.archive_output.specs.declared.sheet.Sheet.{Sheet as Page}
use Rattle.tasks.specs.Moments.{Streams}
use Rattle.tasks.specs.Status.{Finishes, Outcome, Plain, as_text, placeless_text}
use Rattle.tasks.specs.declared.task.Task.{Task}
use Rattle.tasks.specs.declared.task.Task.TheVariants as task

-- something may be said on the faults though the work is done
abbrev pub tells : Asked → Bool
tells (Apply file stops answers) = true
tells (Convert from) = true
tells (EnterTable file source form token) = true
tells (ExportPlain file) = true
tells (ExportPublicPlain file today) = true
tells (Import file token progress report) = progress || is_some report
tells _ = false

module _ {D S : Type 0} {g : disk.Ghosts D} (image : Image) (left : Left S D g) where
  -- a new archive of the society was made; or there is a reason why not
  abbrev pub Makes : List ℕ → Outcome → Type 0
  Makes society outcome = (r : Plain) × (outcome ≡ as_text r) × OnOk r (IsMadeIn image society left)
      × IfErr r (λ kind. Unmade image society kind left)

module _ {D S R W F : Type 0} {g : disk.Ghosts D} (reader : read.Ghosts R) (reads : device.Ghosts R)
    (writer : write.Ghosts W) (writes : device.Ghosts W) (faulter : write.Ghosts F) (fails : device.Ghosts F)
    (image : Image) (status : ℕ)
    (x y : Streams R W F) (left : Left S D g) (room : Option Visits) where
  -- ---- the streams, the file and the room
  abbrev pub HasReadFailed : Type 0
  HasReadFailed = Rose (reads.failed x.input) (reads.failed y.input)

  abbrev pub HasWriteFailed : Type 0
  HasWriteFailed = Rose (writes.failed x.output) (writes.failed y.output)

  abbrev pub IsUnread : Type 0
  IsUnread = y.input ≡ x.input

  abbrev pub IsUnwritten : Type 0
  IsUnwritten = y.output ≡ x.output

  -- no file was opened, and no room
  abbrev pub OpensNothing : Type 0
  OpensNothing = IsUntouched left × (room ≡ None)

  -- P of what was done, whose status this is, with the line of a refusal on the faults
  abbrev pub Finished : (Outcome → Type 0) → Type 0
  Finished P = (outcome : Outcome) × P outcome × Finishes faulter.contents fails.failed outcome status x.faults y.faults

  -- ---- files of archives
  -- a task was performed on the archive in a file, and there is no room
  abbrev pub DoesTask : Task → Type 0
  DoesTask t = (shown : Option Content)
      × EndsOnFile reader reads writer writes faulter fails image t x y status shown left × (room ≡ None)

  -- the word is no token, or no memory was found for it
  abbrev pub IsNoToken : List ℕ → Outcome → Type 0
  IsNoToken word outcome = (kind : RefusalKind) × (outcome ≡ Err (placeless_text kind))
      × ((kind ≡ OutOfMemory) ⊎ ((kind ≡ BadToken) × ¬ (IsToken word)))

  -- no token was given, and nothing is opened, read or written; or a task was performed under it
  abbrev pub DoesUnder : List ℕ → Task → Type 0
  DoesUnder word t = (Finished (IsNoToken word) × IsUnread × IsUnwritten × OpensNothing)
      ⊎ (IsToken word × DoesTask t)

  -- the same of an import, whose report is written first if one is asked for
  abbrev pub DoesImport : Bool → List ℕ → Bool → Type 0
  DoesImport false word progress = DoesUnder word (task.Import word progress)
  DoesImport true word progress = (Finished (IsNoToken word) × IsUnread × IsUnwritten × OpensNothing)
      ⊎ (IsToken word
      × ImportsReported reader reads writer writes faulter fails image status x y left room word progress)

  -- ---- rows of requests
  -- the file of answers cannot be read, or no memory was found for it
  abbrev pub IsUnreadable : Outcome → Type 0
  IsUnreadable outcome = (kind : RefusalKind) × (outcome ≡ Err (placeless_text kind))
      × ((kind ≡ OutOfMemory) ⊎ (kind ≡ ReadFailed))

  -- the rows were applied; where answers are expected of them these were read before, and each row was answered so, or
  -- they cannot be read, and nothing is opened, read or written
  abbrev pub DoesRows : Bool → Bool → Type 0
  DoesRows false stops = DoesTask (apply_task stops)
  DoesRows true stops = (Finished IsUnreadable × IsUnread × IsUnwritten × OpensNothing)
      ⊎ ((expected : Expected) × DoesTask (task.ApplyAsExpected expected stops))

  -- ---- texts that are asked for
  abbrev pub Prints : List ℕ → Type 0
  Prints text = Finished (Shows text (writer.contents x.output) (writer.contents y.output) HasWriteFailed)

  -- ---- each command
  -- what was asked for was done, or refused for a reason
  abbrev pub Does : Asked → Type 0
  Does Norm = Finished (Normalises (reader.remaining x.input) (writer.contents x.output) (writer.contents y.output)
      HasReadFailed HasWriteFailed) × OpensNothing
  Does Check = Finished (Checks (reader.remaining x.input) (writer.contents x.output) (writer.contents y.output)
      HasReadFailed HasWriteFailed) × OpensNothing
  Does CheckAll = Finished (ChecksAll (reader.remaining x.input) (writer.contents x.output) (writer.contents y.output)
      HasReadFailed HasWriteFailed) × OpensNothing
  Does (Convert from) = Converts faulter.contents fails.failed (option_map set_of from) (reader.remaining x.input)
      (writer.contents x.output) (writer.contents y.output) x.faults y.faults HasReadFailed HasWriteFailed status
      × OpensNothing
  Does (Init file society) = Finished (Makes image left society.now) × IsUnread × IsUnwritten × (room ≡ None)
  Does (Apply file stops answers) = DoesRows (is_some answers) stops
  Does (Entries file source token) = DoesUnder token.now (task.Entries token.now source)
  Does (EnterTable file source form token) = DoesUnder token.now (entering_task token.now source form)
  Does (CheckTable file source form) = DoesTask (table_task source form)
  Does (Import file token progress report) = DoesImport (is_some report) token.now progress
  Does (Export file) = DoesTask task.Export
  Does (ExportPublic file today) = DoesTask (task.ExportPublic today)
  Does (ExportPlain file) = DoesTask task.ExportPlain
  Does (ExportPublicPlain file today) = DoesTask (task.ExportPublicPlain today)
  Does (Sheet file which number generations today) = (page : Page) × IsSheetOf which number generations page
      × DoesTask (task.Sheet page today)
  Does (Serve file port count today pages) = (shown : Option Content)
      × EndsOnFile reader reads writer writes faulter fails image (task.Library today) x y status shown left
      × IsRoomOf port count pages shown room
  Does (Audit file) = DoesTask task.Audit
  Does (Days file first last words) = DoesTask (task.Days first last words)
  Does (ListAsked file which source after limit csv) = DoesTask (list_task which source after limit csv)
  Does (Find file words which limit csv) = DoesTask (find_task words which limit csv)
  Does (Show file numbers) = DoesTask (task.Show numbers)
  Does (History file number) = DoesTask (task.History number)
  Does (Review file csv) = DoesTask (review_task csv)
  Does (Completions text) = Prints text.now × IsUnread × OpensNothing
  Does (Text text) = Prints (string_bytes text) × IsUnread × OpensNothing

  -- no memory was found to read the words, and nothing is done
  pub record IsWanting : Type 0 where
    pub finishes : Finishes faulter.contents fails.failed (Err (placeless_text OutOfMemory)) status x.faults y.faults
    pub unread : IsUnread
    pub unwritten : IsUnwritten
    pub unopened : OpensNothing

  -- the words ask for a command, and that was done
  abbrev pub DoesWords : List (List ℕ) → Type 0
  DoesWords words = (asked : Asked) × IsSome (name_of asked) × Asks words asked × Does asked

  -- words that ask for no command: nothing is read, and nothing opened. They ask for help or for the version, and a
  -- text is printed; or they are refused with 2, or no memory was found to read them, and nothing is written on the
  -- output
  abbrev pub RefusesWords : List (List ℕ) → Type 0
  RefusesWords words = IsUnread × OpensNothing × ((AsksForHelp words × ((text : List ℕ) × Prints text))
      ⊎ (IsUnwritten × ((status ≡ 2) ⊎ IsWanting)))
