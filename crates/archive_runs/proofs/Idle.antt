-- A run without a task on an archive leaves each that the two held; the first run makes one.
use Rattle.std.proofs.Common.{◌≡◌, ◌∷◌, [], ℕ, List, ap, inl, inr, refl, subst}
use Rattle.std.specs.Prelude.{Bool, Option}
use Rattle.std.proofs.Math.Logic.{∥∥₁_map}
use Rattle.sqlite.specs.Files.{HoldsDatabase, file_state}
use Rattle.sqlite.specs.Held.{Held}
use Rattle.sqlite.specs.Schema.{Schema}
use Rattle.sqlite.specs.State.{HasCleanDisk}
use Rattle.sqlite.specs.Table.{Table}
use Rattle.sqlite.specs.Tree.{Trees}
use Rattle.sqlite_disk.specs.declared.Disk as disk
use Rattle.sqlite_store.specs.declared.store.FileStore.{FileStore}
use Rattle.sqlite_wal.specs.Recovery.{Image}
use Rattle.archive_core.specs.Machine.{Done}
use Rattle.archive_files.specs.Made.{IsMadeIn, IsUnmadeIn}
use Rattle.archive_state.specs.Content.{Content, nothing}
use Rattle.archive_files.specs.declared.left.Left.{Left as LeftOf}
use Rattle.archive_files.specs.declared.left.Left.TheVariants.{Untouched, Unopened, Open}
use Rattle.record_text.specs.declared.refusal.RefusalKind.{RefusalKind}
use Rattle.store.specs.Archives.{HasArchive, IsArchive, LeavesArchive}
use Rattle.store.specs.Earlier.{HadArchive, HoldsArchive, LeavesHeld}
use Rattle.store.specs.Lives.{IsOpenedOver}
use Rattle.store_tables.specs.Calls.{IsBlank}
use Rattle.store_tables.specs.Schema.{archive_schema, no_schema}
use Rattle.store_tables.proofs.Reopening.{sound_once}
use Rattle.archive_runs.specs.Runs.{Carries, Left, Stands}
use Rattle.archive_runs.specs.Beginning.{HasNoTask, idle}
use Rattle.archive_runs.specs.Leaving.{FindsAfter}

-- ---- a database in which nothing was made is no archive
abbrev IsNone : List Table → Type 0
IsNone [] = Unit {0}
IsNone (table ∷ more) = ⊥

no_archive : (has_spans : Bool) → no_schema ≡ archive_schema has_spans → ⊥
no_archive has_spans same = subst IsNone (ap (λ (s : Schema). s.tables) same) tt

never_both : (society : List ℕ) (c : Content) (t : Trees) → HoldsArchive society c t → IsBlank t → ⊥
never_both society c t (inl is) blank =
    no_archive is.0.has_spans (sound_once is.0.has_spans no_schema t is.1.sound blank.sound)
never_both society c t (inr was) blank =
    no_archive was.2.0.has_spans (sound_once was.2.0.has_spans no_schema t was.2.1.sound blank.sound)

module _ (image after : Image) (society : List ℕ) (input written : List ℕ) (ended : Option ℕ) where
  -- the archive of a society is found
  abbrev Found : List ℕ → Content → Type 0
  Found it c = (kept : List Done) × (found : Content) × Left it c (idle input written ended) kept found after

  found : (it : List ℕ) (c : Content) (t : Trees) → HoldsDatabase after t → HoldsArchive it c t → Found it c
  found it c t holds had = ([], c, (refl, refl, ∣ (t, holds, had) ∣₁))

  -- what the two held, they hold
  same : ((t : Trees) → HoldsDatabase image t → ∥ HoldsDatabase after t ∥₁)
      → Carries image (idle input written ended) after
  same finds it c stands = ∥∥₁_map (finds stands.0 stands.1) (λ holds. found it c stands.0 holds stands.2)

  module _ {D : Type 0} {g : disk.Ghosts D}
      (second : (conn : Held (FileStore D g)) (it : List ℕ) (c : Content) → HasArchive it c (file_state conn)
      → LeavesArchive (file_state conn) it (λ left. left ≡ c))
      (first : (conn : Held (FileStore D g)) (it : List ℕ) (c : Content) → HadArchive it c (file_state conn)
      → LeavesHeld (file_state conn) it c) where
    held : (conn : Held (FileStore D g)) (it : List ℕ) (c : Content) (t : Trees) → IsOpenedOver t (file_state conn)
        → HoldsArchive it c t → (left : Trees) → (file_state conn).may_leave left → HoldsArchive it c left
    held conn it c t over (inl is) left may =
        let kept = second conn it c (over.has it c is) left may in
        inl (subst (λ (k : Content). IsArchive it k left) kept.1 kept.2)
    held conn it c t over (inr was) left may = first conn it c (over.had it c was) left may

    unmade : (conn : Held (FileStore D g)) (kind : RefusalKind) → IsUnmadeIn image society kind (file_state conn)
        → ((t : Trees) → HoldsDatabase image t → HasCleanDisk (file_state conn)
        × ∥ ((left : Trees) × (file_state conn).may_leave left × HoldsDatabase after left) ∥₁)
        → Carries image (idle input written ended) after
    unmade conn kind (named, inl there) finds it c stands =
        let f = finds stands.0 stands.1 in
        ∥∥₁_map f.1 (λ one. found it c one.0 one.2
        (held conn it c stands.0 (there.1.1 f.0 stands.0 stands.1) stands.2 one.0 one.1))
    unmade conn kind (named, inr half) finds it c stands =
        absurd (never_both it c stands.0 stands.2
        (half.1.0 (finds stands.0 stands.1).0 stands.0 stands.1))

    module _ {S : Type 0} where
      pub kept : (left : LeftOf S D g) → HasNoTask image society left → FindsAfter image left after
          → Carries image (idle input written ended) after
      kept (Untouched start) is finds = same (finds.0 tt)
      kept (Unopened rest) (inl is) finds = absurd is
      kept (Unopened rest) (inr (inl made)) finds = absurd made
      kept (Unopened rest) (inr (inr (kind, un))) finds = same (finds.0 un.2)
      kept (Open conn) (inl is) finds = absurd is
      kept (Open conn) (inr (inl made)) finds = λ it c stands.
          absurd (never_both it c stands.0 stands.2
          (made.1 (finds.0 tt stands.0 stands.1).0 stands.0 stands.1))
      kept (Open conn) (inr (inr (kind, un))) finds = unmade conn kind un (finds.0 tt)

-- the new archive is found
module _ (image after : Image) (society : List ℕ) {D S : Type 0} {g : disk.Ghosts D} where
  pub begun : (left : LeftOf S D g) → IsMadeIn image society left → FindsAfter image left after
      → ∥ Stands society nothing after ∥₁
  begun (Untouched start) made finds = absurd made
  begun (Unopened rest) made finds = absurd made
  begun (Open conn) made finds =
      let f = finds.1 in
      ∥∥₁_map f.1 (λ one.
      let left = (made.2 f.0).1 one.0 one.1 in
      let r : Stands society nothing after =
      (one.0, one.2, inl (subst (λ (k : Content). IsArchive society k one.0) left.1 left.2)) in r)
