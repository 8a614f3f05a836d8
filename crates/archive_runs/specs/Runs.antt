-- Runs of the program, one after the other, on a file and the log beside it that nobody else writes. Rules of our own.
use Rattle.std.specs.Prelude.{
  ◌≡◌,
  ◌⊎◌,
  ◌≤◌,
  ◌++◌,
  ◌∷◌,
  [],
  ℕ,
  Bool,
  true,
  false,
  List,
  length,
  Option,
  Some,
  None,
  Ok,
}
use Rattle.sqlite.specs.Files.{HoldsDatabase}
use Rattle.sqlite.specs.Tree.{Trees}
use Rattle.sqlite_wal.specs.Recovery.{Image}
use Rattle.archive_core.specs.Machine.{Done, Runs, import_of}
use Rattle.archive_core.specs.declared.request.Request.{Request}
use Rattle.archive_state.specs.Content.{Content}
use Rattle.expected_answers.specs.Expected.{left as left_of}
use Rattle.expected_rows.specs.Expecting.{AreExpected, Left as Awaited}
use Rattle.request_csv.specs.Batches.{ReadsBatch}
use Rattle.request_csv.specs.Input.{AreFirstRows, AreRows, Row, row_bytes}
use Rattle.commands.specs.declared.entry_row.EntryRow.{EntryRow}
use Rattle.archive_input.specs.Importing.{IsFileOf}
use Rattle.archive_input.specs.Telling.{import_text}
use Rattle.gedcom_tree.specs.Forest.{Item}
use Rattle.import_definitions.specs.Report.{report}
use Rattle.receipts.specs.declared.answer.Answer.{Answer}
use Rattle.row_references.specs.Words.{number_in}
use Rattle.row_references.specs.declared.words.NumberWord.{NumberWord}
use Rattle.store.specs.Earlier.{HoldsArchive}
use Rattle.store.specs.Histories.{in_doubt}
use Rattle.store.specs.Lives.{Counts}
use Rattle.archive_input.specs.Answers.{Served}
use Rattle.archive_input.specs.Applying.{AreServed, AreServedOver, answers, calls_of}
use Rattle.archive_input.specs.Stopping.{AreAccepted, IsUpToRefusal}
use Rattle.archive_tables.specs.RowBatches.{batch_request, numbers_on}
use Rattle.archive_tables.specs.Entering.{page_request}
use Rattle.archive_tables.specs.Making.{place_request, trial_on}
use Rattle.page_batches.specs.Batches.{rows_on}
use Rattle.page_batches.specs.Placing.{parent_on}
use Rattle.page_entries.specs.Entries.{page_of}
use Rattle.page_entries.specs.declared.entries.PageEntry.{PageEntry}
use Rattle.page_texts.specs.Texts.{page_text}
use Rattle.tasks.specs.Texts.{made_text}
use Rattle.tasks.specs.declared.task.TableForm.{TableForm}
use Rattle.tasks.specs.declared.task.Task.{Task}
use Rattle.tasks.specs.declared.task.Task.TheVariants as task
use Rattle.archive_runs.specs.Reading.{ReadsBack}

-- a run: its task on the archive in the file, none where it had none, as where its words were refused; its input, what
-- it wrote on its output, and its status, none where it was stopped before it ended
pub record Run : Type 0 where
  pub task : Option Task
  pub input : List ℕ
  pub written : List ℕ
  pub status : Option ℕ

-- it ended, and said that what was asked for is done
abbrev pub IsDone : Run → Type 0
IsDone run = run.status ≡ Some 0

-- it wrote a beginning of this text, and all of it where it is done
abbrev pub Tells : Run → List ℕ → Type 0
Tells run text = ((rest : List ℕ) × (text ≡ run.written ++ rest)) × (IsDone run → run.written ≡ text)

-- ---- what is kept of the requests of a run, and written on its output
-- these rows are all of the input, and no request is in doubt; or the first of it, and it is not done
abbrev pub HasRead : Run → List Row → List Served → Type 0
HasRead run rows served = (AreRows (row_bytes (Some run.input)) rows × (in_doubt (calls_of served) ≡ None))
    ⊎ (AreFirstRows (row_bytes (Some run.input)) rows × ¬ (IsDone run))

-- rows were served on an archive that held this, each with the numbers that its tokens had then. Their requests are
-- kept; that of the last may be in doubt, and then it is kept or not, and has no answer. The answers are written: each
-- that stands on the output is of a request that is kept
pub record KeepsRows (c : Content) (run : Run) (kept : List Done) : Type 0 where
  pub rows : List Row
  pub served : List Served
  pub read : HasRead run rows served
  pub each : AreServed rows served
  pub numbers : AreServedOver c rows served
  pub counts : Counts (calls_of served) kept
  pub told : Tells run (answers served)

-- rows were served up to the first that was refused, after which none is done; where it is done none was refused
pub record KeepsUntilRefused (c : Content) (run : Run) (kept : List Done) : Type 0 where
  pub rows : KeepsRows c run kept
  pub stops : IsUpToRefusal rows.served
  pub none : IsDone run → AreAccepted rows.served

-- the rows before the last were answered as is expected, and so was the last where it was answered
abbrev pub IsExpectedUpTo : Awaited → List Served → Type 0
IsExpectedUpTo expected served = (first : List Served) × (last : List Served) × (served ≡ first ++ last)
    × (length last ≤ 1) × AreExpected expected first

-- rows were served as long as each was answered as is expected; where it is done each was
pub record KeepsExpected (c : Content) (expected : Awaited) (stops : Bool) (run : Run) (kept : List Done) : Type 0 where
  pub rows : KeepsRows c run kept
  pub as_expected : IsExpectedUpTo expected rows.served
  pub up_to : stops ≡ true → IsUpToRefusal rows.served
  pub whole : IsDone run → AreExpected expected rows.served
  pub none : IsDone run → stops ≡ true → AreAccepted rows.served

-- the one request is kept, and nothing is written but this of its answer
abbrev pub KeepsOne : Run → Request → (Answer → List ℕ) → List Done → Type 0
KeepsOne run r text kept = (answer : Answer) × (kept ≡ (r, Ok answer) ∷ []) × Tells run (text answer)

-- nothing is kept, nothing is written, and it is not done
abbrev pub KeepsNone : Run → List Done → Type 0
KeepsNone run kept = (kept ≡ []) × (run.written ≡ []) × ¬ (IsDone run)

-- P of the number of a source, which a word gave on the archive
abbrev pub OfSource : Content → NumberWord → (ℕ → Type 0) → Type 0
OfSource c word P = (n : ℕ) × (number_in c word ≡ Some n) × P n

-- the entries of the input are kept, all of them, with the numbers that the archive had for the tokens of their places
abbrev pub KeepsBatch : Content → List ℕ → ℕ → Run → List Done → Type 0
KeepsBatch c token source run kept = (rows : List Row) × (entries : List EntryRow)
    × ReadsBatch (numbers_on c rows) (row_bytes (Some run.input)) rows entries
    × KeepsOne run (batch_request token source entries) made_text kept

-- these entries are kept, all of them, with the places that the archive had
abbrev pub KeepsEntries : Content → List ℕ → ℕ → List PageEntry → Run → List Done → Type 0
KeepsEntries c token source entries run kept = (rows : List EntryRow) × (rows_on c token source entries ≡ Ok rows)
    × KeepsOne run (page_request token source entries rows) made_text kept

-- so are those of the page of the input
abbrev pub KeepsPage : Content → List ℕ → ℕ → TableForm → Run → List Done → Type 0
KeepsPage c token source form run kept = (entries : List PageEntry)
    × (page_of form.order (page_text form.set run.input) ≡ Ok entries) × KeepsEntries c token source entries run kept

-- these made the places of the first of these paths, in their order, each within the place that the archive had by then
-- for the path above it; and that is what it holds after them
abbrev pub ArePlaces : Content → List ℕ → List (List ℕ) → List Done → Content → Type 0
ArePlaces c token paths [] found = found ≡ c
ArePlaces c token [] (done ∷ more) found = ⊥
ArePlaces c token (path ∷ paths) (done ∷ more) found = (parent : Option ℕ) × (answer : Answer) × (after : Content)
    × (parent_on c path ≡ Ok parent) × (done ≡ (place_request token path parent, Ok answer))
    × Runs c (done ∷ []) after × ArePlaces after token paths more found

-- the archive would take the page of the input with the places that it lacks: the first of these are kept, in their
-- order, and after all of them the entries, all or none
pub record KeepsPlaced (c : Content) (token : List ℕ) (source : ℕ) (form : TableForm) (run : Run)
    (kept : List Done) : Type 0 where
  pub entries : List PageEntry
  pub read : page_of form.order (page_text form.set run.input) ≡ Ok entries
  pub paths : List (List ℕ)
  pub lacking : trial_on c token source entries ≡ Ok paths
  pub places : List Done
  pub page : List Done
  pub all : kept ≡ places ++ page
  pub found : Content
  pub made : ArePlaces c token paths places found
  pub entered : KeepsNone run page
      ⊎ ((length places ≡ length paths) × KeepsEntries found token source entries run page)

-- by whether the places are made that the archive does not have
abbrev pub KeepsTable : Bool → Content → List ℕ → ℕ → TableForm → Run → List Done → Type 0
KeepsTable false c token source form run kept = KeepsPage c token source form run kept
KeepsTable true c token source form run kept = KeepsPlaced c token source form run kept

-- the file of the input is kept, whole
abbrev pub KeepsFile : List ℕ → Run → List Done → Type 0
KeepsFile token run kept = (forest : List Item) × IsFileOf (Some run.input) forest
    × KeepsOne run (import_of token forest) (λ answer. import_text answer (report forest)) kept

-- by its task, of an archive that held this. A batch, a page and a file are kept whole or not at all, and the places of
-- a page before it; an export that is done reads back as the same records; of no other task anything is kept
abbrev pub Acts : Content → Option Task → Run → List Done → Type 0
Acts c (Some task.Apply) run kept = KeepsNone run kept ⊎ KeepsRows c run kept
Acts c (Some task.ApplyUntilRefused) run kept = KeepsNone run kept ⊎ KeepsUntilRefused c run kept
Acts c (Some (task.ApplyAsExpected expected stops)) run kept =
    KeepsNone run kept ⊎ KeepsExpected c (left_of expected) stops run kept
Acts c (Some (task.Entries token source)) run kept =
    KeepsNone run kept ⊎ OfSource c source (λ n. KeepsBatch c token n run kept)
Acts c (Some (task.EnterTable token source form)) run kept =
    KeepsNone run kept ⊎ OfSource c source (λ n. KeepsTable form.makes c token n form run kept)
Acts c (Some (task.Import token progress)) run kept = KeepsNone run kept ⊎ KeepsFile token run kept
Acts c (Some task.Export) run kept = (kept ≡ []) × (IsDone run → ReadsBack c run.written)
Acts c _ run kept = kept ≡ []

abbrev pub Keeps : Content → Run → List Done → Type 0
Keeps c run kept = Acts c run.task run kept

-- ---- runs on a file
-- the file and its log hold the archive of a society, of either version
abbrev pub Stands : List ℕ → Content → Image → Type 0
Stands society c image = (t : Trees) × HoldsDatabase image t × HoldsArchive society c t

-- what was kept of a run, and what the archive holds then
abbrev pub Left : List ℕ → Content → Run → List Done → Content → Image → Type 0
Left society c run kept found after = Keeps c run kept × Runs c kept found × ∥ Stands society found after ∥₁

-- a run over these two, which leaves those two: of each archive that they held it loses nothing
abbrev pub Carries : Image → Run → Image → Type 0
Carries before run after = (society : List ℕ) (c : Content) → Stands society c before
    → ∥ ((kept : List Done) × (found : Content) × Left society c run kept found after) ∥₁

-- runs, each over what the one before has left
abbrev pub Follow : Image → List Run → Image → Type 0
Follow first [] last = last ≡ first
Follow first (run ∷ more) last = (between : Image) × Carries first run between × Follow between more last

-- what is kept of all of them is what is kept of each, in their order
abbrev pub KeepAll : Content → List Run → List Done → Content → Type 0
KeepAll c [] kept found = (kept ≡ []) × (found ≡ c)
KeepAll c (run ∷ more) kept found = (one rest : List Done) × (between : Content) × Keeps c run one × Runs c one between
    × KeepAll between more rest found × (kept ≡ one ++ rest)
