-- Calls that only read, one after the other, and what is kept by them whether the tables are good or not.
use Rattle.std.proofs.Common.{
  ◌≡◌,
  ◌∙◌,
  ◌⊎◌,
  inl,
  inr,
  Bool,
  true,
  false,
  [],
  Ok,
  Err,
  refl,
  sym,
  ap,
  subst,
  true≢false,
}
use Rattle.std.specs.Prelude.{Result, IfErr}
use Rattle.sqlite.specs.Held.{Held, state}
use Rattle.sqlite.specs.State.{HasCleanDisk, State}
use Rattle.sqlite_trees.specs.declared.store.Store.{Ghosts}
use Rattle.archive_state.specs.Content.{Content}
use Rattle.archive_state.specs.Looks.{is_failure}
use Rattle.record_text.specs.declared.refusal.RefusalKind.{RefusalKind}
use Rattle.record_text.specs.declared.refusal.RefusalKind.TheVariants.{OutOfMemory, Storage, WriteFailed}
use Rattle.store.specs.Archives.{HasArchive}
use Rattle.store.specs.Calls.{Stays}
use Rattle.store.specs.Histories.{has_broken, is_storage}
use Rattle.store.specs.Importing.{Has}
use Rattle.store.specs.Lives.{IsCall}
use Rattle.store.specs.Looking.{StaysReadable}
use Rattle.store.specs.Standing.{Standing, standing}
use Rattle.store.specs.declared.archive.Archive.{Archive}
use Rattle.store.proofs.Viewed.{seen_of}
use Rattle.store_tables.specs.Calls.{LeavesOnly, Settled}
use Rattle.store_tables.specs.Rows.{Rows}
use Rattle.archive_output.specs.Reading.{DoesNoRequest, OnOpen, OnlyReads, OnlyReadsAny}

-- ---- calls of a session
module _ {S : Type 0} (g : Ghosts S) (old mid new : Held S) (was at is : Standing) where
  call_then : IsCall g old was [] mid at → IsCall g mid at [] new is → IsCall g old was [] new is
  call_then (inl a) (inl b) = inl (record {
    kept = a.kept;
    certain = λ _. refl;
    done = λ clean sure society c has.
        let here = a.done (b.clean clean) b.kept society c has in
        b.done clean sure society c
        (subst (λ (d : Content). Has society d at.import (state g mid)) here.1 here.2);
    crash = λ clean society c has.
        let here = a.done (b.clean clean) b.kept society c has in
        b.crash clean society c
        (subst (λ (d : Content). Has society d at.import (state g mid)) here.1 here.2);
    clean = λ clean. a.clean (b.clean clean);
  })
  call_then (inl a) (inr still) = subst (λ (h : Held S). IsCall g old was [] h is) (sym still.same)
      (subst (λ (s : Standing). IsCall g old was [] mid s) (sym still.stands) (inl a))
  call_then (inr still) more = subst (λ (h : Held S). IsCall g h was [] new is) still.same
      (subst (λ (s : Standing). IsCall g mid s [] new is) still.stands more)

-- ---- tables stay
-- any tables, and so those that can be read
readable : (old new : State) (failed : Bool) → (HasCleanDisk new → Stays old failed new) → HasCleanDisk new
    → StaysReadable old failed new
readable old new failed stays clean =
    let s = stays clean in
    record {
      same = λ sure rows c was _. s.same sure rows was;
      crash = λ rows c was _. s.crash rows was;
      clean = s.clean;
    }

module _ (old mid new : State) (lost failed : Bool) (kept : lost ≡ false) where
  any_then : (HasCleanDisk mid → Stays old lost mid) → (HasCleanDisk new → Stays mid failed new)
      → HasCleanDisk new → Stays old failed new
  any_then first more clean =
      let b = more clean in
      let a = first b.clean in
      record {
        same = λ sure rows was. b.same sure rows (a.same kept rows was);
        crash = λ rows was. b.crash rows (a.same kept rows was);
        clean = a.clean;
      }

  readable_then : (HasCleanDisk mid → StaysReadable old lost mid)
      → (HasCleanDisk new → StaysReadable mid failed new) → HasCleanDisk new → StaysReadable old failed new
  readable_then first more clean =
      let b = more clean in
      let a = first b.clean in
      record {
        same = λ sure rows c was seen. b.same sure rows c (a.same kept rows c was seen) seen;
        crash = λ rows c was seen. b.crash rows c (a.same kept rows c was seen) seen;
        clean = a.clean;
      }

-- an archive that stays is there still
still_open : (old new : State) (lost : Bool) → (HasCleanDisk new → StaysReadable old lost new) → lost ≡ false
    → OnOpen old new (λ society c. HasArchive society c new)
still_open old new lost stays sure clean =
    let s = stays clean in (
      s.clean,
      λ society c has. (
        (has.0, s.same sure has.0 c has.1 (seen_of has.2), has.2),
        λ t l. (c, refl, (has.0, s.crash has.0 c has.1 (seen_of has.2) t l, has.2)),
      ),
    )

-- ---- an archive is only read
module _ {S : Type 0} (g : Ghosts S) (old new : Archive S g) where
  pub reads_of : DoesNoRequest g old new → new.import ≡ old.import
      → (HasCleanDisk (state g new.conn) → StaysReadable (state g old.conn) new.is_lost (state g new.conn))
      → OnlyReads g old new
  reads_of called same stays = record {
    called = called;
    import = same;
    still = still_open (state g old.conn) (state g new.conn) new.is_lost stays;
    stays = stays;
  }

  -- by one call of `store`
  pub reads_any : (lost : Bool) → new.is_lost ≡ lost → DoesNoRequest g old new → new.import ≡ old.import
      → (HasCleanDisk (state g new.conn) → Stays (state g old.conn) lost (state g new.conn)) → OnlyReadsAny g old new
  reads_any lost is called same did =
      let stays : HasCleanDisk (state g new.conn) → Stays (state g old.conn) new.is_lost (state g new.conn) =
      subst (λ (l : Bool). HasCleanDisk (state g new.conn) → Stays (state g old.conn) l (state g new.conn)) (sym is)
      did in
      record {
        reads = reads_of called same (readable (state g old.conn) (state g new.conn) new.is_lost stays);
        stays = stays;
      }

-- by none
pub reads_none : {S : Type 0} (g : Ghosts S) (a : Archive S g)
    → ((rows : Rows) → Settled (state g a.conn) rows → LeavesOnly (state g a.conn) rows) → OnlyReadsAny g a a
reads_none g a leaves = reads_any g a a a.is_lost refl
    (λ r. inr (record { unheard = refl; same = refl; stands = refl })) refl
    (λ clean. record { same = λ _ rows was. was; crash = leaves; clean = clean })

-- by one call after the other
module _ {S : Type 0} (g : Ghosts S) (old mid new : Archive S g) (kept : mid.is_lost ≡ false) where
  pub reads_then : OnlyReads g old mid → OnlyReads g mid new → OnlyReads g old new
  reads_then a b = reads_of g old new
      (λ r. call_then g old.conn mid.conn new.conn (standing r old.is_lost old.import)
      (standing r mid.is_lost mid.import) (standing r new.is_lost new.import) (a.called r) (b.called r))
      (b.import ∙ a.import)
      (readable_then (state g old.conn) (state g mid.conn) (state g new.conn) mid.is_lost new.is_lost kept a.stays
      b.stays)

  pub reads_any_then : OnlyReadsAny g old mid → OnlyReadsAny g mid new → OnlyReadsAny g old new
  reads_any_then a b = record {
    reads = reads_then a.reads b.reads;
    stays = any_then (state g old.conn) (state g mid.conn) (state g new.conn) mid.is_lost new.is_lost kept a.stays
        b.stays;
  }

-- ---- refusals that lose no archive
failure_or_not : (kind : RefusalKind) → is_failure kind ≡ false → is_storage kind ≡ false
failure_or_not Storage sure = absurd (true≢false sure)
failure_or_not _ sure = refl

pub no_failure : {A : Type 0} (r : Result A RefusalKind) → IfErr r (λ kind. is_failure kind ≡ false)
    → has_broken r ≡ false
no_failure (Ok a) sure = refl
no_failure (Err kind) sure = failure_or_not kind sure

pub want_alone : {A : Type 0} (r : Result A RefusalKind) → IfErr r (λ kind. kind ≡ OutOfMemory)
    → has_broken r ≡ false
want_alone (Ok a) want = refl
want_alone (Err kind) want = ap is_storage want

pub written_or_want : {A : Type 0} (r : Result A RefusalKind)
    → IfErr r (λ kind. (kind ≡ WriteFailed) ⊎ (kind ≡ OutOfMemory)) → has_broken r ≡ false
written_or_want (Ok a) why = refl
written_or_want (Err kind) (inl failed) = ap is_storage failed
written_or_want (Err kind) (inr want) = ap is_storage want

-- ---- an archive on which something was set aside
pub moved : {S : Type 0} (g : Ghosts S) (old first last new : Held S) → first ≡ old → new ≡ last
    → (P : State → State → Type 0) → P (state g first) (state g last) → P (state g old) (state g new)
moved {S} g old first last new begins ends P p = subst (λ (h : Held S). P (state g h) (state g new)) begins
    (subst (λ (h : Held S). P (state g first) (state g h)) (sym ends) p)

pub aside_stays : {S : Type 0} (g : Ghosts S) (old first last new : Held S) (lost lost_now : Bool) → first ≡ old
    → new ≡ last → lost_now ≡ lost
    → (HasCleanDisk (state g last) → StaysReadable (state g first) lost (state g last))
    → HasCleanDisk (state g new) → StaysReadable (state g old) lost_now (state g new)
aside_stays g old first last new lost lost_now begins ends same stays = moved g old first last new begins ends
    (λ a b. HasCleanDisk b → StaysReadable a lost_now b)
    (subst (λ (l : Bool). HasCleanDisk (state g last) → StaysReadable (state g first) l (state g last)) (sym same)
    stays)
