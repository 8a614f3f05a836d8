-- What a run of the program leaves of the archive's file and the log beside it. Rules of our own.
use Rattle.std.specs.Prelude.{◌≡◌, ◌⊎◌, ⊤, [], ℕ, Bool, true, false, List, Option, Some, None, is_some}
use Rattle.sqlite_wal.specs.Recovery.{Image}
use Rattle.archive_state.specs.Content.{nothing}
use Rattle.command_line.specs.Asking.{Asks, IsTaken}
use Rattle.command_line.specs.declared.tasks.Asked.{Asked}
use Rattle.command_line.specs.declared.tasks.Asked.TheVariants.{
  Apply,
  Audit,
  CheckTable,
  Days,
  EnterTable,
  Entries,
  Export,
  ExportPlain,
  ExportPublic,
  ExportPublicPlain,
  Find,
  History,
  Import,
  Init,
  List as ListAsked,
  Review,
  Serve,
  Sheet,
  Show,
}
use Rattle.expected_answers.specs.declared.expected.Expected.{Expected}
use Rattle.parish.specs.Lists.{find_task, list_task, review_task}
use Rattle.parish.specs.Rooms.{IsSheetOf}
use Rattle.parish.specs.Rows.{apply_task}
use Rattle.parish.specs.Tables.{entering_task, table_task}
use Rattle.archive_runs.specs.Runs.{Carries, Stands}
use Rattle.archive_runs.specs.Beginning.{idle}
use Rattle.archive_output.specs.declared.sheet.Sheet.{Sheet as Page}
use Rattle.tasks.specs.declared.task.Task.{Task}
use Rattle.tasks.specs.declared.task.Task.TheVariants as task

-- rows are applied; where answers are expected of them as these are, or not at all since the answers cannot be read
abbrev pub HasRows : Bool → Bool → Option Task → Type 0
HasRows false stops t = t ≡ Some (apply_task stops)
HasRows true stops t = (t ≡ None) ⊎ ((expected : Expected) × (t ≡ Some (task.ApplyAsExpected expected stops)))

-- the task on an archive that is asked for; none where none is
abbrev pub HasTask : Asked → Option Task → Type 0
HasTask (Apply file stops answers) t = HasRows (is_some answers) stops t
HasTask (Entries file source token) t = t ≡ Some (task.Entries token.now source)
HasTask (EnterTable file source form token) t = t ≡ Some (entering_task token.now source form)
HasTask (CheckTable file source form) t = t ≡ Some (table_task source form)
HasTask (Import file token progress report) t = t ≡ Some (task.Import token.now progress)
HasTask (Export file) t = t ≡ Some task.Export
HasTask (ExportPublic file today) t = t ≡ Some (task.ExportPublic today)
HasTask (ExportPlain file) t = t ≡ Some task.ExportPlain
HasTask (ExportPublicPlain file today) t = t ≡ Some (task.ExportPublicPlain today)
HasTask (Sheet file which number generations today) t = (page : Page) × IsSheetOf which number generations page
    × (t ≡ Some (task.Sheet page today))
HasTask (Serve file port count today pages) t = t ≡ Some (task.Library today)
HasTask (Audit file) t = t ≡ Some task.Audit
HasTask (Days file first last words) t = t ≡ Some (task.Days first last words)
HasTask (ListAsked file which source after limit csv) t = t ≡ Some (list_task which source after limit csv)
HasTask (Find file words which limit csv) t = t ≡ Some (find_task words which limit csv)
HasTask (Show file numbers) t = t ≡ Some (task.Show numbers)
HasTask (History file number) t = t ≡ Some (task.History number)
HasTask (Review file csv) t = t ≡ Some (review_task csv)
HasTask _ t = t ≡ None

-- a run over the two before, with this input, which wrote this and ended so, leaves the two after
module _ (before : Image) (input written : List ℕ) (ended : Option ℕ) (after : Image) where
  -- an archive that was made is there
  abbrev pub Begins : Asked → Type 0
  Begins (Init file society) = ended ≡ Some 0 → ∥ Stands society.now nothing after ∥₁
  Begins _ = ⊤

  -- of each archive that the two held nothing is lost, by the task that was asked for
  abbrev pub IsRun : Asked → Type 0
  IsRun asked = ((t : Option Task) × HasTask asked t
      × Carries before (record { task = t; input = input; written = written; status = ended }) after)
      × Begins asked

  -- the words were refused, which those that are taken never are, or no memory was found to read them; nothing was
  -- written
  abbrev pub IsRefused : List (List ℕ) → Type 0
  IsRefused words = (written ≡ []) × ¬ (ended ≡ Some 0) × (IsTaken words → ¬ (ended ≡ Some 2))

  -- the same of what the words ask for; or they were refused, and nothing of an archive is changed
  abbrev pub IsRunOf : List (List ℕ) → Type 0
  IsRunOf words = ((asked : Asked) × Asks words asked × IsRun asked)
      ⊎ (IsRefused words × Carries before (idle input written ended) after)
