-- A task that ended on the archive in a file carries it to what is found then.
use Rattle.std.proofs.Common.{◌≡◌, [], ℕ, List, Bool, None, inl, inr, refl, subst}
use Rattle.std.specs.Prelude.{Option}
use Rattle.std.proofs.Math.Logic.{∥∥₁_map}
use Rattle.std.specs.declared.io.Read as read
use Rattle.std.specs.declared.io.Write as write
use Rattle.sqlite.specs.Files.{HoldsDatabase, file_state}
use Rattle.sqlite.specs.Held.{Held}
use Rattle.sqlite.specs.State.{HasCleanDisk}
use Rattle.sqlite.specs.Tree.{Trees}
use Rattle.sqlite_disk.specs.declared.Disk as disk
use Rattle.sqlite_store.specs.declared.store.FileStore.{FileStore}
use Rattle.sqlite_wal.specs.Recovery.{Image}
use Rattle.archive_runs.specs.Tasks.{EndsOnFile, EndsOpened, EndsUnopened}
use Rattle.archive_core.specs.Machine.{Done}
use Rattle.archive_state.specs.Content.{Content}
use Rattle.archive_files.specs.DatabaseOpening.{IsUntouched}
use Rattle.archive_files.specs.declared.left.Left.{Left as LeftOf}
use Rattle.archive_files.specs.declared.left.Left.TheVariants.{Untouched, Unopened, Open}
use Rattle.devices.specs.declared.device.Device as device
use Rattle.round_trip.specs.SameLaws.{FileComesBack}
use Rattle.store.specs.Earlier.{HoldsArchive}
use Rattle.tasks.specs.Moments.{Streams}
use Rattle.store.proofs.Viewed.{seen_of}
use Rattle.tasks.specs.declared.task.Task.{Task}
use Rattle.tasks.specs.declared.task.Task.TheVariants as task
use Rattle.archive_runs.specs.Reporting.{EndsBeside, IsOnlyRead}
use Rattle.archive_runs.specs.Runs.{Carries, Keeps, Left, Run}
use Rattle.archive_runs.specs.Leaving.{FindsAfter}
use Rattle.archive_runs.specs.Seeing.{IsSeen, IsSeenAs}
use Rattle.archive_runs.proofs.Found.{ArePerformed, FoundIn, acts_none, found_by, keeps_none, still_held}
use Rattle.archive_runs.proofs.Seen.{never, run_of, untouched}

-- the disk of the connection was clean, and the two hold a database that a crash might have left of it
abbrev Finds : {D : Type 0} {g : disk.Ghosts D} → Held (FileStore D g) → Image → Type 0
Finds conn after = HasCleanDisk (file_state conn)
    × ∥ ((t : Trees) × (file_state conn).may_leave t × HoldsDatabase after t) ∥₁

module _ {R W F : Type 0} (reader : read.Ghosts R) (reads : device.Ghosts R) (writer : write.Ghosts W)
    (writes : device.Ghosts W) (faulter : write.Ghosts F) (fails : device.Ghosts F) (x y : Streams R W F)
    (input seen unseen : List ℕ)
    (status : ℕ) (ended : Option ℕ) (s : IsSeen reader writer x y input seen unseen) (is : IsSeenAs status unseen ended)
    (image after : Image) (t : Task) where
  abbrev run : Run
  run = run_of t input seen ended

  abbrev Found : List ℕ → Content → Trees → Type 0
  Found = FoundIn reader reads writer writes faulter fails x y input seen unseen status ended s is t

  -- nothing was done
  acts : (c : Content) → y.output ≡ x.output → status ≡ 1 → Keeps c run []
  acts c same one =
      acts_none reader reads writer writes faulter fails x y input seen unseen status ended s is t c
      (untouched reader writer x y input seen unseen status ended s is same)
      (never reader writer x y input seen unseen status ended s is one)

  -- no archive was taken up: where the two are not open they hold what they held
  carried_over : y.output ≡ x.output → status ≡ 1
      → ((t : Trees) → HoldsDatabase image t → ∥ HoldsDatabase after t ∥₁) → Carries image run after
  carried_over unwritten one finds society c stands = ∥∥₁_map (finds stands.0 stands.1) (λ holds.
      let r : (kept : List Done) × (now : Content) × Left society c run kept now after =
      ([], c, (acts c unwritten one, refl, ∣ (stands.0, holds, stands.2) ∣₁)) in r)

  module _ {D : Type 0} {g : disk.Ghosts D} where
    -- what is found in each of the tables that a crash may leave is found in what the files hold
    carried : (conn : Held (FileStore D g)) → Finds conn after
        → (HasCleanDisk (file_state conn) → (society : List ℕ) (c : Content) (tables : Trees)
        → HoldsDatabase image tables → HoldsArchive society c tables → (left : Trees)
        → (file_state conn).may_leave left → Found society c left)
        → Carries image run after
    carried conn finds found society c stands = ∥∥₁_map finds.1 (λ one.
        let all = found finds.0 society c stands.0 stands.1 stands.2 one.0 one.1 in
        let r : (kept : List Done) × (now : Content) × Left society c run kept now after =
        (all.0, all.1, (all.2, all.3, ∣ (one.0, one.2, all.4) ∣₁)) in r)

  module _ {D S : Type 0} {g : disk.Ghosts D} where
    unopened : (shown : Option Content) (left : LeftOf S D g)
        → EndsUnopened reader reads writer writes faulter fails image x y status shown left
        → FindsAfter image left after
        → Carries image run after
    unopened shown (Untouched start) u finds = carried_over u.unwritten u.finishes.0 (finds.0 tt)
    unopened shown (Unopened rest) u finds = carried_over u.unwritten u.finishes.0 (finds.0 u.unopened.1)
    unopened shown (Open conn) u finds = λ society c stands.
        carried conn (finds.0 tt stands.0 stands.1) (λ clean society c tables holds had left may.
        keeps_none reader reads writer writes faulter fails x y input seen unseen status ended s is t society c left
        (acts c u.unwritten u.finishes.0)
        (still_held tables (file_state conn) (u.unopened.spared clean tables holds) society c had left may))
        society c stands

    opened : ArePerformed g → FileComesBack → (shown : Option Content) (left : LeftOf S D g)
        → EndsOpened reader reads writer writes faulter fails image t x y status shown left
        → FindsAfter image left after
        → Carries image run after
    opened law back shown left o finds society c stands =
        let found = subst (λ (rest : LeftOf S D g). FindsAfter image rest after) o.back finds in
        carried o.new.conn (found.0 tt stands.0 stands.1)
        (λ clean society c tables holds had left may.
        found_by reader reads writer writes faulter fails x y input seen unseen status ended s is image o.taken o.new
        o.held
        clean society c tables holds had left may o.ends.between law back t o.ends.outcome shown
        (o.ends.does o.held.kept) o.ends.finishes) society c stands

    pub carries : ArePerformed g → FileComesBack → (shown : Option Content) (left : LeftOf S D g)
        → EndsOnFile reader reads writer writes faulter fails image t x y status shown left
        → FindsAfter image left after
        → Carries image run after
    carries law back shown left (inl u) finds = unopened shown left u finds
    carries law back shown left (inr o) finds = opened law back shown left o finds

    -- it was refused before the file was opened
    pub refused : (left : LeftOf S D g) → IsUntouched left → y.output ≡ x.output → status ≡ 1
        → FindsAfter image left after → Carries image run after
    refused (Untouched start) is unwritten one finds = carried_over unwritten one (finds.0 tt)
    refused (Unopened rest) is unwritten one finds = absurd is
    refused (Open conn) is unwritten one finds = absurd is

    -- an archive that was taken up, and only read
    pub only_read : (left : LeftOf S D g)
        → IsOnlyRead reader reads writer writes faulter fails image x y status left
        → FindsAfter image left after → Carries image run after
    only_read left o finds society c stands =
        let found = subst (λ (rest : LeftOf S D g). FindsAfter image rest after) o.back finds in
        carried o.new.conn (found.0 tt stands.0 stands.1)
        (λ clean society c tables holds had left may.
        let stays = o.looks.stays clean in
        let had_it = (o.held.has stays.clean society c tables holds had).0 in
        keeps_none reader reads writer writes faulter fails x y input seen unseen status ended s is t society c left
        (acts c o.unprinted o.said.0)
        (inl (had_it.0, stays.crash had_it.0 c had_it.1 (seen_of had_it.2) left may, had_it.2))) society c stands

-- an import with a report
module _ {R W F : Type 0} (reader : read.Ghosts R) (reads : device.Ghosts R) (writer : write.Ghosts W)
    (writes : device.Ghosts W) (faulter : write.Ghosts F) (fails : device.Ghosts F) (x y : Streams R W F)
    (input seen unseen : List ℕ)
    (status : ℕ) (ended : Option ℕ) (s : IsSeen reader writer x y input seen unseen) (is : IsSeenAs status unseen ended)
    (image after : Image) (token : List ℕ) (progress : Bool) where
  module _ {D S : Type 0} {g : disk.Ghosts D} where
    pub carries_beside : ArePerformed g → FileComesBack → (left : LeftOf S D g)
        → EndsBeside reader reads writer writes faulter fails image token progress x y status left
        → FindsAfter image left after
        → Carries image (run_of (task.Import token progress) input seen ended) after
    carries_beside law back left (inl (between, ends, told)) finds =
        carries reader reads writer writes faulter fails x
        (record { input = y.input; output = y.output; faults = between }) input seen unseen status ended
        (record { reads = s.reads; begins = s.begins; writes = s.writes }) is image after (task.Import token progress)
        law back None left ends finds
    carries_beside law back left (inr o) finds =
        only_read reader reads writer writes faulter fails x y input seen unseen status ended s is image after
        (task.Import token progress) left o finds
