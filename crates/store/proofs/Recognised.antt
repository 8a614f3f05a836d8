-- Why a store is refused, from what the calls that look at it say.
use Rattle.std.proofs.Common.{
  ◌≡◌,
  ◌∙◌,
  ap,
  Bool,
  true,
  false,
  List,
  ℕ,
  refl,
  sym,
  subst,
  inl,
  inr,
  true≢false,
  Ok,
  Err,
}
use Rattle.std.specs.Prelude.{⊤, IsTrue}
use Rattle.sqlite.specs.Held.{Held, state}
use Rattle.sqlite.specs.State.{HasCleanDisk, IsUnchanged, State, Survives}
use Rattle.sqlite.specs.Tree.{Trees}
use Rattle.sqlite.proofs.Callers.{unchanged_then}
use Rattle.sqlite_trees.specs.declared.store.Store.{Ghosts}
use Rattle.record_text.specs.declared.refusal.RefusalKind.{RefusalKind}
use Rattle.record_text.specs.declared.refusal.RefusalKind.TheVariants.{
  BadStored,
  NewerSchema,
  NotAnArchive,
  OutOfMemory,
  Storage,
}
use Rattle.archive_state.specs.Looks.{is_stop}
use Rattle.store_tables.specs.Calls.{IsAsItWas, LeavesOnly, Settled}
use Rattle.store_tables.specs.Looking.{IsFailure, IsRefusedStore, Looks, version_number}
use Rattle.store_tables.specs.Prepared.{IsRefusedTables, queries_of}
use Rattle.store_tables.specs.Rows.{Rows}
use Rattle.store_tables.specs.declared.version.Version.{Version}
use Rattle.store_tables.proofs.Asking.{later_same, no_archive_same}
use Rattle.store.specs.Adopting.{IsRecognised, IsUnreadable, LeavesStore, RefusesToAdopt, ShowsKnown, is_foreign}
use Rattle.store.specs.Calls.{Stays}
use Rattle.store.specs.Histories.{is_storage}
use Rattle.store.proofs.Looked.{storage_is}

-- the version is refused
pub by_version : {S : Type 0} (g : Ghosts S) (old : State) (read : Held S) (kind : RefusalKind)
    → IsRefusedStore old (state g read) kind → RefusesToAdopt g old kind
by_version g old read OutOfMemory is = tt
by_version g old read Storage is = tt
by_version g old read NewerSchema is = (read, is)
by_version g old read NotAnArchive is = (read, inl is)
by_version g old read _ is = absurd is

-- a version that is known has not all tables
pub by_tables : {S : Type 0} (g : Ghosts S) (old : State) (read : Held S) (version : Version) (new : State)
    (kind : RefusalKind) → ShowsKnown old (state g read) version
    → IsRefusedTables (queries_of version) (state g read) new kind → RefusesToAdopt g old kind
by_tables g old read version new Storage shows is = tt
by_tables g old read version new NotAnArchive shows is = (read, inr (version, shows, is.1))
by_tables g old read version new _ shows is = absurd is

-- ---- what is looked at twice is as in one look
abbrev pub Shows : Rows → Version → Type 0
Shows rows version = rows.version ≡ version_number version

pub known : (old mid new : State) (version : Version) → Looks Shows old mid (Ok version)
    → (HasCleanDisk new → HasCleanDisk mid) → Looks {A = Unit {0}} (λ _ _. ⊤) old new (Ok tt)
    → Looks Shows old new (Ok version)
known old mid new version first before both = record {
  read = λ clean. first.read (before clean);
  same = both.same;
  refused = λ clean. tt;
  crash = both.crash;
  clean = both.clean;
}

pub unknown : (old new : State) (kind : RefusalKind) → Looks {A = Unit {0}} (λ _ _. ⊤) old new (Err kind)
    → Looks Shows old new (Err kind)
unknown old new kind both = record {
  read = λ clean. tt;
  same = λ clean. tt;
  refused = both.refused;
  crash = both.crash;
  clean = both.clean;
}

-- ---- the connection was asked afterwards whether it answers still
pub stays_known : (old new : State) (version : Version) → HasCleanDisk new → Looks Shows old new (Ok version)
    → Stays old false new
stays_known old new version clean read = record {
  same = λ sure. read.same clean;
  crash = read.crash clean;
  clean = read.clean clean;
}

pub stays_after : (old mid new : State) (kind result : RefusalKind) → HasCleanDisk mid → Looks Shows old mid (Err kind)
    → (is_storage result ≡ false → (rows : Rows) → LeavesOnly mid rows → Settled new rows)
    → ((t : Trees) → new.may_leave t → mid.may_leave t) → Stays old (is_storage result) new
stays_after old mid new kind result before read settled left = record {
  same = λ sure rows was. settled sure rows (read.crash before rows was);
  crash = λ rows was t l. read.crash before rows was t (left t l);
  clean = read.clean before;
}

pub fails_after : (b : Bool) (kind result : RefusalKind) → is_storage result ≡ b → (b ≡ false → result ≡ kind)
    → IsFailure kind → IsFailure result
fails_after true kind result e same failure = inr (storage_is result e)
fails_after false kind result e same failure = subst IsFailure (sym (same refl)) failure

-- the database failed afterwards, or it did not
pub told_after : {S : Type 0} (g : Ghosts S) (old : State) (b : Bool) (kind result : RefusalKind)
    → is_storage result ≡ b → (b ≡ false → result ≡ kind) → RefusesToAdopt g old kind
    → RefusesToAdopt g old result
told_after g old false kind result e same told = subst (RefusesToAdopt g old) (sym (same refl)) told
told_after g old true kind Storage e same told = tt
told_after g old true kind _ e same told = absurd (true≢false (sym e))

-- ---- a store that was recognised is refused
pub by_stop : {S : Type 0} (g : Ghosts S) (old : State) (kind : RefusalKind) → is_stop kind ≡ true
    → (kind ≡ BadStored → IsRecognised g old × IsUnreadable old) → RefusesToAdopt g old kind
by_stop g old OutOfMemory stop bad = tt
by_stop g old Storage stop bad = tt
by_stop g old BadStored stop bad = bad refl
by_stop g old _ stop bad = absurd (true≢false (sym stop))

pub stop_is_not_foreign : (kind : RefusalKind) → is_stop kind ≡ true → is_foreign kind ≡ true → ⊥
stop_is_not_foreign NotAnArchive stop foreign = true≢false (sym stop)
stop_is_not_foreign NewerSchema stop foreign = true≢false (sym stop)
stop_is_not_foreign _ stop foreign = true≢false (sym foreign)

-- ---- what is refused for what it is, is as it was
pub same_version : (old read : State) (kind : RefusalKind) → IsRefusedStore old read kind → is_foreign kind ≡ true
    → IsUnchanged old read
same_version old read NotAnArchive is e = no_archive_same old read is
same_version old read NewerSchema is e = later_same old read is
same_version old read _ is e = absurd (true≢false (sym e))

pub same_tables : (queries : List (List ℕ)) (old mid new : State) (kind : RefusalKind) → IsUnchanged old mid
    → IsRefusedTables queries mid new kind → is_foreign kind ≡ true → IsUnchanged old new
same_tables queries old mid new NotAnArchive same is e = unchanged_then old mid new same is.0
same_tables queries old mid new Storage same is e = absurd (true≢false (sym e))
same_tables queries old mid new _ same is e = absurd is

foreign_is : (k : RefusalKind) → is_foreign k ≡ true → is_storage k ≡ false
foreign_is Storage e = absurd (true≢false (sym e))
foreign_is _ e = refl

-- the connection was asked afterwards whether it answers still
pub as_it_was : (old mid new : State) (kind result : RefusalKind) → (is_foreign kind ≡ true → IsUnchanged old mid)
    → (is_storage result ≡ false → result ≡ kind)
    → (is_storage result ≡ false → IsTrue mid.is_open → IsAsItWas mid new) → is_foreign result ≡ true
    → IsAsItWas old new
as_it_was old mid new kind result same is kept e =
    let sure = foreign_is result e in
    let here = same (sym (ap is_foreign (is sure)) ∙ e) in
    let back = kept sure here.0.is_open in
    (back.0 ∙ here.0.now_is, back.1 ∙ here.0.committed_is)

-- nothing is committed, and what a crash may leave is what was committed
pub leaves_store : (old new : State) → Survives old new (λ _. ⊥)
    → (IsTrue old.is_open → (t : Trees) → old.may_leave t → t ≡ old.committed.trees) → LeavesStore old new
leaves_store old new survives only = record {
  survives = survives;
  crash = λ clean was_open t l. elim (survives.crash clean t l) [
    | inl before ↦ only was_open t before
    | inr commits ↦ absurd commits
  ];
}
