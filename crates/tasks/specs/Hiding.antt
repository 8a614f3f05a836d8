-- Two runs that print what may be shown of two archives which differ only in what is hidden. Rules of our own.
use Rattle.std.specs.Prelude.{◌≡◌, ◌⊎◌, false, ℕ, ℤ, List, Option, Some, None, Ok, Err, OnOk}
use Rattle.std.specs.Io.KnownBytes.{Appends}
use Rattle.sqlite.specs.Held.{state}
use Rattle.sqlite.specs.State.{HasCleanDisk}
use Rattle.sqlite_trees.specs.declared.store.Store.{Ghosts}
use Rattle.archive_state.specs.Content.{Content}
use Rattle.archive_state.specs.Sound.{IsSound}
use Rattle.masking.specs.Hidden.{AreAlike}
use Rattle.record_text.specs.declared.refusal.RefusalKind.{RefusalKind}
use Rattle.record_text.specs.declared.refusal.RefusalKind.TheVariants.{OutOfMemory, WriteFailed}
use Rattle.store.specs.Archives.{HasArchive}
use Rattle.store_tables.specs.Looking.{IsFailure}
use Rattle.tasks.specs.Faults.{IsReported}
use Rattle.tasks.specs.Moments.{Moment}
use Rattle.tasks.specs.Status.{Outcome}
use Rattle.tasks.specs.declared.task.Task.{Task}
use Rattle.tasks.specs.declared.task.Task.TheVariants as task

-- two sound archives that differ on this day only in what is hidden
pub record DifferInHidden (a b : Content) (today : ℤ) : Type 0 where
  pub first : IsSound a
  pub second : IsSound b
  pub alike : AreAlike a b today

-- two writers, the first from `x` to `y` and the second from `v` to `w`, got the same text
abbrev pub GotTheSame : Option (List ℕ) → Option (List ℕ) → Option (List ℕ) → Option (List ℕ) → Type 0
GotTheSame x y v w = (text : List ℕ) × Appends x y text × Appends v w text

-- two streams of faults, the first from `k` to `l` and the second from `m` to `n`, got the same text, whole but where
-- they failed, by their counts. `said` is what such a stream has got, `failed` how often it failed
abbrev pub ReportTheSame : {F : Type 0} → (F → Option (List ℕ)) → (F → ℕ) → F → F → F → F → Type 0
ReportTheSame said failed k l m n =
    (text : List ℕ) × IsReported said failed k l text × IsReported said failed m n text

-- memory was refused, the database failed, or the writer did
abbrev pub HasFailed : RefusalKind → Type 0
HasFailed kind = IsFailure kind ⊎ ((kind ≡ WriteFailed) ⊎ (kind ≡ OutOfMemory))

-- ---- two runs of a task
-- it shows what may be shown on that day
abbrev pub ShowsOn : Task → ℤ → Type 0
ShowsOn (task.ExportPublic day) today = day ≡ today
ShowsOn (task.Sheet sheet day) today = day ≡ today
ShowsOn (task.Library day) today = day ≡ today
ShowsOn _ today = ⊥

-- it ended early, since memory was refused, the database failed, or the writer did
abbrev pub IsCutShort : Outcome → Type 0
IsCutShort (Ok done) = ⊥
IsCutShort (Err t) = HasFailed t.refusal.kind

-- the same records may be shown of both, or of both nothing
abbrev pub ShowTheSame : Option Content → Option Content → Type 0
ShowTheSame (Some shown) (Some other) = shown.records ≡ other.records
ShowTheSame None None = Unit {0}
ShowTheSame _ _ = ⊥

-- a run was over the archive of a society that holds this, and the disk returned what was written
pub record IsOver {S R W F : Type 0} (g : Ghosts S) (society : List ℕ) (c : Content) (a b : Moment g R W F) : Type 0
  where
    pub kept : a.archive.is_lost ≡ false
    pub has : HasArchive society c (state g a.archive.conn)
    pub clean : HasCleanDisk (state g b.archive.conn)

-- two runs, the first from `a` to `b` and the second from `v` to `w`, end alike: with the same outcome, and so with the
-- same line on the faults; with the same status; where they are done their outputs got the same, or are as they were;
-- and the same may be shown
pub record EndAlike {S R W F : Type 0} {g : Ghosts S} (got : W → Option (List ℕ)) (a b v w : Moment g R W F)
    (outcome other : Outcome) (status number : ℕ) (shown more : Option Content) : Type 0 where
  pub same : outcome ≡ other
  pub status_same : status ≡ number
  pub written : OnOk outcome (GotTheSame (got a.output) (got b.output) (got v.output) (got w.output)
      ⊎ ((b.output ≡ a.output) × (w.output ≡ v.output)))
  pub shows : ShowTheSame shown more
