-- Why no archive was made or taken up, from what is said of the file and what `store` says of its tables.
use Rattle.std.proofs.Common.{◌≡◌, ◌⊎◌, false, ℕ, List, ap, inl, inr, refl, subst, sym}
use Rattle.sqlite.specs.Files.{IsOpened, file_state}
use Rattle.sqlite.specs.Start.{FindsIn}
use Rattle.sqlite.specs.Held.{Held}
use Rattle.sqlite.specs.State.{HasCleanDisk}
use Rattle.sqlite_disk.specs.declared.Disk as disk
use Rattle.sqlite_store.specs.declared.store.FileStore.{FileStore}
use Rattle.sqlite_wal.specs.Recovery.{Image}
use Rattle.record_text.specs.declared.refusal.RefusalKind.{RefusalKind}
use Rattle.record_text.specs.declared.refusal.RefusalKind.TheVariants.{BadText, OutOfMemory, Storage}
use Rattle.archive_files.specs.DatabaseOpening.{IsNotOpenOver}
use Rattle.archive_files.specs.declared.left.Left.{Left}
use Rattle.archive_files.specs.declared.left.Left.TheVariants as left
use Rattle.store.specs.Creating.{IsSociety, RefusesToCreate}
use Rattle.store.specs.Histories.{is_storage}
use Rattle.store.specs.Lives.{IsOpenedOver}
use Rattle.store.proofs.Opened.{opened_over, opened_over_old, opened_blank}
use Rattle.archive_files.specs.Made.{IsUnmade, IsUnmadeIn, Unmade, WasThere}
use Rattle.archive_files.specs.Opening.{OfTables, Unopened}
use Rattle.archive_files.proofs.Opened.{was_blank}

-- what a society's name is refused with, before a file is opened
pub unnamed : (society : List ℕ) (kind : RefusalKind) → (kind ≡ OutOfMemory) ⊎ ((kind ≡ BadText) × ¬ IsSociety society)
    → IsUnmade society kind
unnamed society kind (inl want) = inr (inl want)
unnamed society kind (inr bad) = inl bad

-- what a society with a name is refused, over a file that was opened; but for 80 the connection is the one that was
-- given
pub unmade : {D : Type 0} {g : disk.Ghosts D} (image : Image) (society : List ℕ) (kind : RefusalKind)
    (opened left : Held (FileStore D g)) → IsSociety society
    → RefusesToCreate society (file_state opened) (file_state left) kind → (is_storage kind ≡ false → left ≡ opened)
    → (HasCleanDisk (file_state left) → HasCleanDisk (file_state opened))
    → (HasCleanDisk (file_state opened) → IsOpened opened × FindsIn image (file_state opened))
    → IsUnmadeIn image society kind (file_state left)
unmade image society kind opened left is (inl bad) back honest found = absurd (bad.1 is)
unmade {D} {g} image society kind opened left is (inr (named, inl made)) back honest found =
    let same = back (ap is_storage made.0) in
    let held : HasCleanDisk (file_state opened) → OfTables image (λ t. IsOpenedOver t (file_state opened)) =
    λ clean t holds.
    let o = found clean in
    record {
      has = λ it c is. opened_over (file_state opened) t it c o.0.0 o.0.1 (o.1.holds t holds) is;
      had = λ it c was. opened_over_old (file_state opened) t it c o.0.0 o.0.1 (o.1.holds t holds) was;
    } in
    (is, inl (made.0, subst (λ (x : Held (FileStore D g)). WasThere image (file_state x)) (sym same) (made.1, held)))
unmade image society kind opened left is (inr (named, inr failed)) back honest found = (
  is,
  inr (
    failed.0,
    (
      (λ clean t holds.
          let o = found (honest clean) in
          was_blank (file_state opened) t o.0.0 o.0.1 failed.1 (o.1.holds t holds)),
      (λ clean t l.
          let o = found (honest clean) in
          failed.2 clean (opened_blank (file_state opened) o.0.0 o.0.1 failed.1) t l),
    ),
  ),
)

module _ {D S : Type 0} {g : disk.Ghosts D} (image : Image) where
  -- files that are not open are refused with 80
  pub unopened : (rest : Left S D g) → IsNotOpenOver image rest → Unopened image Storage rest
  unopened (left.Untouched start) over = inr refl
  unopened (left.Unopened found) over = (refl, over)
  unopened (left.Open conn) over = absurd over

  pub unmade_unopened : (society : List ℕ) (rest : Left S D g) → IsSociety society → IsNotOpenOver image rest
      → Unmade image society Storage rest
  unmade_unopened society (left.Untouched start) named over = inr (inr (refl, named))
  unmade_unopened society (left.Unopened found) named over = (refl, named, over)
  unmade_unopened society (left.Open conn) named over = absurd over
