-- How an import ends whose report is written before it is done, and where it has none. Rules of our own.
use Rattle.std.specs.Prelude.{
  ◌≡◌,
  ◌≢◌,
  ◌⊎◌,
  ◌&&◌,
  ◌++◌,
  ◌∷◌,
  [],
  ℕ,
  Bool,
  false,
  true,
  List,
  Option,
  None,
  Ok,
  Err,
  codes,
}
use Rattle.std.specs.declared.io.Read as read
use Rattle.std.specs.declared.io.Write as write
use Rattle.sqlite.specs.Held.{state}
use Rattle.sqlite_trees.specs.declared.store.Store.{Ghosts}
use Rattle.archive_input.specs.Importing.{IsFileOf}
use Rattle.archive_output.specs.Reading.{OnlyReads}
use Rattle.archive_tables.specs.Ends.{OnRead}
use Rattle.devices.specs.Devices.{Rose}
use Rattle.devices.specs.declared.device.Device as device
use Rattle.gedcom_tree.specs.Forest.{Item}
use Rattle.import_reports.specs.Writing.{EndsReport, Written}
use Rattle.record_text.specs.declared.refusal.RefusalKind.{RefusalKind}
use Rattle.record_text.specs.declared.refusal.RefusalKind.TheVariants.{OutOfMemory, Storage, WriteFailed}
use Rattle.record_text.specs.declared.refusal.RefusalText.{RefusalText}
use Rattle.store.specs.Histories.{is_storage}
use Rattle.store.specs.Shut.{is_shut}
use Rattle.store.specs.declared.archive.Archive.{Archive}
use Rattle.tasks.specs.Ends.{Ends}
use Rattle.tasks.specs.Faults.{IsReported}
use Rattle.tasks.specs.Moments.{Moment}
use Rattle.tasks.specs.Status.{Finishes, Outcome, placeless_text}
use Rattle.tasks.specs.declared.task.Task.TheVariants as task

-- what is said where an import has no report, since it was done before
abbrev pub done_before_text : List ℕ
done_before_text = codes "  the import was done before: its report was made then" ++ 10 ∷ []

-- after an import that is done, why it has no report; `said` is what the faults have got, `failed` how often they
-- failed
abbrev pub SaysDoneBefore : {F : Type 0} → (F → Option (List ℕ)) → (F → ℕ) → ℕ → F → F → Type 0
SaysDoneBefore said failed status before after = (status ≡ 0 → IsReported said failed before after done_before_text)
    × (status ≢ 0 → after ≡ before)

-- at 1 and 80 nobody knows whether an import was done, and at 95 it was
abbrev pub is_doubtful : RefusalKind → Bool
is_doubtful OutOfMemory = true
is_doubtful Storage = true
is_doubtful WriteFailed = true
is_doubtful _ = false

-- an import was done, or may have been
abbrev pub may_be_done : Outcome → Bool
may_be_done (Ok done) = true
may_be_done (Err t) = is_doubtful t.refusal.kind

-- the report of such an import is to be kept if it is whole
abbrev pub is_kept : Bool → Outcome → Bool
is_kept whole outcome = whole && may_be_done outcome

module _ {S R W F P : Type 0} (g : Ghosts S) (reader : read.Ghosts R) (reads : device.Ghosts R)
    (writer : write.Ghosts W) (writes : device.Ghosts W) (faulter : write.Ghosts F) (fails : device.Ghosts F)
    (reporter : write.Ghosts P) (report_fails : device.Ghosts P) (token : List ℕ) (progress : Bool) (a : Moment g R W F)
    (old new : P) where
  -- the import ended so, as one without a report, from this archive on
  abbrev pub EndsFrom : Archive S g → Moment g R W F → ℕ → Type 0
  EndsFrom archive b status = Ends g reader reads writer writes faulter fails (task.Import token progress)
      (record { archive = archive; input = a.input; output = a.output; faults = a.faults }) b status None

  -- the file was read, and the writing of its report has come to this over what the archive held, which was only read
  pub record Reports (written : Written) (read : Archive S g) : Type 0 where
    pub forest : List Item
    pub file : IsFileOf (reader.remaining a.input) forest
    pub ends : OnRead (state g a.archive.conn) (state g read.conn)
        (EndsReport written (reporter.contents old) (reporter.contents new) token forest)
    pub looks : OnlyReads g a.archive read

  -- the import ended so from the archive that was read on; and so it did from that of before, where this took requests
  pub record ImportsAfter (read : Archive S g) (b : Moment g R W F) (status : ℕ) : Type 0 where
    pub after : EndsFrom read b status
    pub before : is_shut a.archive ≡ false → EndsFrom a.archive b status

  -- the report was written whole, and then the file was imported
  pub record ReportsFirst (b : Moment g R W F) (status : ℕ) : Type 0 where
    pub read : Archive S g
    pub reports : Reports (Ok true) read
    pub imports : ImportsAfter read b status

  -- there is no report, since the token has an answer or the archive does not take the file; and the import ended so
  pub record HasNone (b : Moment g R W F) (status : ℕ) : Type 0 where
    pub read : Archive S g
    pub reports : Reports (Ok false) read
    pub unwritten : new ≡ old
    pub between : F
    pub imports : ImportsAfter read
        (record { archive = b.archive; input = b.input; output = b.output; faults = between }) status
    pub said : SaysDoneBefore faulter.contents fails.failed status between b.faults

  -- the report was not written, or in part, and nothing is imported
  pub record IsUnreported (b : Moment g R W F) (status : ℕ) : Type 0 where
    pub kind : RefusalKind
    pub reports : Reports (Err kind) b.archive
    pub blamed : kind ≡ WriteFailed → Rose (report_fails.failed old) (report_fails.failed new)
    pub lost : b.archive.is_lost ≡ is_storage kind
    pub unprinted : b.output ≡ a.output
    pub said : Finishes faulter.contents fails.failed (Err (placeless_text kind)) status a.faults b.faults

  -- the archive was lost, or the input is no file, and nothing is reported
  pub record IsRefusedFirst (b : Moment g R W F) (status : ℕ) : Type 0 where
    pub unwritten : new ≡ old
    pub ends : EndsFrom a.archive b status

  -- the report was written whole, and then the import was refused, at something else than 1, 80 and 95
  pub record IsWithdrawn (b : Moment g R W F) (status : ℕ) : Type 0 where
    pub first : ReportsFirst b status
    pub why : RefusalText
    pub certain : is_doubtful why.refusal.kind ≡ false
    pub between : F
    pub said : Finishes faulter.contents fails.failed (Err why) status between b.faults

  -- the report is to be kept: it is whole, and the import has come after it. Or there is none to be kept
  abbrev pub EndsReported : Moment g R W F → ℕ → Bool → Type 0
  EndsReported b status true = ReportsFirst b status
  EndsReported b status false =
      HasNone b status ⊎ (IsUnreported b status ⊎ (IsRefusedFirst b status ⊎ IsWithdrawn b status))
