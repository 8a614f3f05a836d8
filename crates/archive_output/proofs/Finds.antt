-- What is said of an archive that is open, from what was read of it and written.
use Rattle.std.proofs.Common.{◌≡◌, ◌∙◌, ◌⊎◌, inl, inr, ℕ, ℤ, Bool, true, false, List, Ok, Err, sym, subst}
use Rattle.std.specs.Prelude.{Option, Result, IfErr, IfOk, OnErr, OnOk}
use Rattle.std.specs.Io.KnownBytes.{Appends}
use Rattle.std.specs.List.{flat_map}
use Rattle.sqlite.specs.State.{HasCleanDisk, State}
use Rattle.archive_state.specs.Content.{Content}
use Rattle.date_spans.specs.Between.{AreAll, IsBetween}
use Rattle.devices.specs.Devices.{AppendsBeginning}
use Rattle.record_text.specs.declared.refusal.RefusalKind.{RefusalKind}
use Rattle.record_text.specs.declared.refusal.RefusalKind.TheVariants.{OutOfMemory, WriteFailed}
use Rattle.store.specs.Archives.{HasArchive}
use Rattle.store.specs.Calls.{Reads}
use Rattle.store_tables.specs.Looking.{IsFailure}
use Rattle.archive_output.specs.Reading.{OnOpen}
use Rattle.archive_output.proofs.Asked.{follows, read_as}
use Rattle.archive_output.specs.Ends.{AreCut, AreWritten, OnFound}
use Rattle.archive_output.specs.Lines.{found_text, number_line, told_line}
use Rattle.list_laws.proofs.Outcomes.{keeps}

-- ---- the days as they were handed on, and as they are
pub in_days : (P : ℤ → ℤ → Type 0) (f first l last : ℤ) → f ≡ first → l ≡ last → P f l → P first last
in_days P f first l last e d p = subst (λ (x : ℤ). P x last) e (subst (λ (y : ℤ). P f y) d p)

-- ---- they are in order
pub all_in_order : {A Q : Type 0} (r : Result A RefusalKind) (P : Type 0) → Q → OnOk r P → OnOk r (Q × P)
all_in_order (Ok a) P order did = (order, did)
all_in_order (Err kind) P order did = tt

pub part_in_order : {A Q : Type 0} (r : Result A RefusalKind) (N P : RefusalKind → Type 0) → Q → IfErr r P
    → IfErr r (λ kind. N kind ⊎ (Q × P kind))
part_in_order (Ok a) N P order did = tt
part_in_order (Err kind) N P order did = inr (order, did)

-- ---- what was read, as it is said of an archive
pub found_as : {A : Type 0} {Is : List ℕ → Content → A → Type 0} (old new : State) (a : A)
    → (HasCleanDisk new → Reads Is old (Ok a) new)
    → OnOpen old new (λ society c. Is society c a × HasArchive society c new)
found_as {A} {Is} old new a reads = read_as Is old new (λ society c. Is society c a) a (λ _ _ _ is. is) reads

-- ---- two reads, one after the other
then_read : (old mid new : State) (P Q : List ℕ → Content → Type 0)
    → OnOpen old mid (λ society c. P society c × HasArchive society c mid) → OnOpen mid new Q
    → OnOpen old new (λ society c. P society c × Q society c)
then_read old mid new P Q first more clean =
    let at = more clean in
    let was = first at.0 in (
      was.0,
      λ society c has.
          let here = (was.1 society c has).0 in
          let did = at.1 society c here.1 in
          ((here.0, did.0), did.1),
    )

-- ---- the numbers that were found, and as they were handed on
module _ {A : Type 0} (bytes : A → List ℕ) (old mid : State) (first last : ℤ) (ns given : List ℕ) (same : given ≡ ns)
    (found : OnOpen old mid (λ society c. AreAll (IsBetween c.records first last) ns × HasArchive society c mid)) where
  handed_on : OnOpen old mid (λ society c. AreAll (IsBetween c.records first last) given × HasArchive society c mid)
  handed_on = subst (λ (x : List ℕ). OnOpen old mid
      (λ society c. AreAll (IsBetween c.records first last) x × HasArchive society c mid)) (sym same) found

  pub numbers_are : (r : Result A RefusalKind) → IfOk r (λ s. bytes s ≡ flat_map number_line given)
      → IfOk r (λ s. OnOpen old mid (λ _ c. OnFound false first last (λ text. bytes s ≡ text) c))
  numbers_are (Ok s) e = follows old mid
      (λ society c. AreAll (IsBetween c.records first last) given × HasArchive society c mid)
      (λ _ c. OnFound false first last (λ text. bytes s ≡ text) c) (λ _ c is. (given, is.0, e)) handed_on
  numbers_are (Err kind) e = tt

  pub told_are : (new : State) (r : Result A RefusalKind)
      → IfOk r (λ s. OnOpen mid new (λ _ c. bytes s ≡ found_text true c.records given))
      → IfOk r (λ s. OnOpen old new (λ _ c. OnFound true first last (λ text. bytes s ≡ text) c))
  told_are new (Ok s) did = follows old new
      (λ _ c. AreAll (IsBetween c.records first last) given × (bytes s ≡ found_text true c.records given))
      (λ _ c. OnFound true first last (λ text. bytes s ≡ text) c) (λ _ c is. (given, is.0, is.1))
      (then_read old mid new (λ _ c. AreAll (IsBetween c.records first last) given)
      (λ _ c. bytes s ≡ found_text true c.records given) handed_on did)
  told_are new (Err kind) did = tt

  pub untold_are : (new : State) (r : Result A RefusalKind)
      → IfErr r (λ kind. OnOpen mid new (λ _ _. IsFailure kind))
      → IfErr r (λ kind. OnOpen old new (λ _ _. IsFailure kind))
  untold_are new (Ok s) did = tt
  untold_are new (Err kind) did = follows old new
      (λ _ c. AreAll (IsBetween c.records first last) given × IsFailure kind) (λ _ _. IsFailure kind) (λ _ _ is. is.1)
      (then_read old mid new (λ _ c. AreAll (IsBetween c.records first last) given) (λ _ _. IsFailure kind) handed_on
      did)

-- ---- what is said of them
module _ (old new : State) (held : Content)
    (reads : HasCleanDisk new → Reads (λ _ c found. found ≡ c) old (Ok held) new) where
  pub read : OnOpen old new (λ society c. (held ≡ c) × HasArchive society c new)
  read = read_as (λ _ c found. found ≡ c) old new (λ _ c. held ≡ c) held (λ _ _ _ is. is) reads

  pub told_of_held : {A : Type 0} (bytes : A → List ℕ) (ns : List ℕ) (r : Result A RefusalKind)
      → IfOk r (λ s. bytes s ≡ flat_map (told_line held.records) ns)
      → IfOk r (λ s. OnOpen old new (λ _ c. bytes s ≡ found_text true c.records ns))
  told_of_held bytes ns (Ok s) e = follows old new (λ society c. (held ≡ c) × HasArchive society c new)
      (λ _ c. bytes s ≡ found_text true c.records ns)
      (λ _ c is. subst (λ (x : Content). bytes s ≡ found_text true x.records ns) is.0 e) read
  told_of_held bytes ns (Err kind) e = tt

-- ---- what was written of it

module _ {A : Type 0} (old new : State) (words : Bool) (first last : ℤ) (before after : Option (List ℕ))
    (bytes given : List ℕ) (same : given ≡ bytes)
    (found : OnOpen old new (λ _ c. OnFound words first last (λ text. bytes ≡ text) c)) where
  pub all_written : (r : Result A RefusalKind) → OnOk r (Appends before after given)
      → OnOk r (OnOpen old new (λ _ c. AreWritten words first last before after c))
  all_written (Ok a) did = follows old new (λ _ c. OnFound words first last (λ text. bytes ≡ text) c)
      (λ _ c. AreWritten words first last before after c)
      (λ _ c is. (is.0, is.1, subst (Appends before after) (same ∙ is.2) did)) found
  all_written (Err kind) did = tt

  pub part_written : (r : Result A RefusalKind) → OnErr r (AppendsBeginning before after given)
      → IfErr r (λ kind. (kind ≡ WriteFailed) ⊎ (kind ≡ OutOfMemory))
      → IfErr r (λ kind. OnOpen old new (λ _ c. AreCut kind words first last before after c))
  part_written (Ok a) did why = tt
  part_written (Err kind) did why = follows old new (λ _ c. OnFound words first last (λ text. bytes ≡ text) c)
      (λ _ c. AreCut kind words first last before after c)
      (λ _ c is. inr (why, (is.0, is.1, subst (AppendsBeginning before after) (same ∙ is.2) did))) found

pub none_written : (old new : State) (kind : RefusalKind) (words : Bool) (first last : ℤ) (before : Option (List ℕ))
    → OnOpen old new (λ _ _. IsFailure kind)
    → OnOpen old new (λ _ c. AreCut kind words first last before before c)
none_written old new kind words first last before fails = follows old new (λ _ _. IsFailure kind)
    (λ _ c. AreCut kind words first last before before c) (λ _ _ is. inl (is, keeps before)) fails
