-- What is said of an export of an archive that is open, from what `gedcom_export` says of a view.
use Rattle.std.proofs.Common.{
  ◌≡◌,
  ◌∙◌,
  arith,
  inl,
  inr,
  ℕ,
  Bool,
  true,
  false,
  List,
  Ok,
  Err,
  length,
  refl,
  sym,
  ap,
  subst,
  true≢false,
}
use Rattle.std.specs.Prelude.{◌≢◌, Option, Result, IfErr, OnOk}
use Rattle.sqlite.specs.State.{HasCleanDisk, State}
use Rattle.archive_state.specs.Content.{Content}
use Rattle.archive_state.specs.Sound.{IsSound}
use Rattle.archive_state.specs.Looks.{is_failure, is_stop}
use Rattle.devices.specs.Devices.{Rose}
use Rattle.gedcom_export.specs.Ends.{IsBegun, IsReason}
use Rattle.record_text.specs.declared.refusal.RefusalKind.{RefusalKind}
use Rattle.record_text.specs.declared.refusal.RefusalKind.TheVariants.{BadStored, Storage}
use Rattle.store_tables.specs.Calls.{LeavesOnly, Settled}
use Rattle.store_tables.specs.Looking.{IsFailure}
use Rattle.store_tables.specs.Rows.{Rows}
use Rattle.store.specs.Calls.{Reads}
use Rattle.store.specs.Looking.{StaysReadable}
use Rattle.store.specs.Viewing.{AreSeen, Kept, Shows}
use Rattle.store.proofs.Viewed.{kept_of, seen_of}
use Rattle.archive_output.specs.Exporting.{IsPart, export_text}
use Rattle.archive_output.specs.Reading.{OnOpen}
use Rattle.archive_output.proofs.Asked.{follows}
use Rattle.devices.proofs.Begun.{begins_none}

-- ---- what was written

failure_is_reason : (size : ℕ) (kind : RefusalKind) → IsFailure kind → IsReason size kind
failure_is_reason size kind (inl want) = inl (ap is_stop want)
failure_is_reason size kind (inr lost) = inl (ap is_stop lost)

-- whether the stored lines are known to be spoilt
abbrev is_bad : RefusalKind → Bool
is_bad BadStored = true
is_bad _ = false

failure_is_not_bad : (kind : RefusalKind) → IsFailure kind → kind ≢ BadStored
failure_is_not_bad kind (inl want) bad = absurd cc
failure_is_not_bad kind (inr lost) bad = absurd cc

-- nothing, where the society could not be read
pub nothing_written : (old new : State) (kind : RefusalKind) (before : Option (List ℕ))
    → OnOpen old new (λ _ _. IsFailure kind)
    → OnOpen old new (λ society c. IsPart kind before before (export_text society c))
nothing_written old new kind before fails clean =
    let at = fails clean in (
      at.0,
      λ society c has.
          let did = at.1 society c has in (
            (
              record {
                reason = failure_is_reason (length (export_text society c)) kind did.0;
                written = begins_none before (export_text society c);
              },
              failure_is_not_bad kind did.0,
            ),
            did.1,
          ),
    )

-- ---- through the view of an archive
-- what a call through the view says, as the clauses of a view have it
abbrev pub Viewed : State → Bool → ℕ → State → Bool → ℕ → (Content → Type 0) → Type 0
Viewed old lost failures new lost_now failures_now P = HasCleanDisk new
    → HasCleanDisk old × ((kept : Kept) → Shows old lost failures kept → Shows new lost_now failures_now kept
    × P kept.content)

pub on_open : (P : Content → Type 0) (Q : List ℕ → Content → Type 0) (old new : State) (lost lost_now : Bool)
    (failures failures_now : ℕ) → failures ≡ 0 → ((rows : Rows) → Settled old rows → LeavesOnly old rows)
    → Viewed old lost failures new lost_now failures_now (λ c. IsSound c → P c)
    → ((lost_now ≡ false → failures_now ≡ 0) → (society : List ℕ) (c : Content) → P c → Q society c)
    → OnOpen old new Q
on_open P Q old new lost lost_now failures failures_now none leaves viewed so clean =
    let at = viewed clean in (
      at.0,
      λ society c has.
          let seen = seen_of has.2 in
          let shown : Shows old lost failures (kept_of has.0 c seen) =
          record { crash = leaves has.0 has.1; settled = λ _. has.1; none = λ _. none } in
          let still = at.1 (kept_of has.0 c seen) shown in (
            so still.0.none society c (still.1 has.2.sound),
            λ t l. (c, refl, (has.0, still.0.crash t l, has.2)),
          ),
    )

not_risen : Rose 0 0 → ⊥
not_risen (inl less) = absurd (omega (arith, less))
not_risen (inr last) = absurd (omega (arith, last))

not_true : (b : Bool) → (b ≡ true → ⊥) → b ≡ false
not_true true none = absurd (none refl)
not_true false none = refl

-- why an export was stopped, where a lost archive is reported as 80: of an archive that is not lost no look has failed
pub stopped : (lost : Bool) (failures failures_now : ℕ) (before after : Option (List ℕ)) (bytes : List ℕ)
    (kind told : RefusalKind) → (lost ≡ true → told ≡ Storage) → (lost ≡ false → is_failure kind ≡ false → told ≡ kind)
    → failures ≡ 0 → (lost ≡ false → failures_now ≡ 0)
    → (is_failure kind ≡ true → Rose failures failures_now) → IsBegun before after bytes kind
    → IsPart told before after bytes
stopped true failures failures_now before after bytes kind told is same first last rose begun = (
  record { reason = inl (ap is_stop (is refl)); written = begun.written },
  λ bad. absurd (true≢false (sym (ap is_bad (sym (is refl) ∙ bad)))),
)
stopped false failures failures_now before after bytes kind told lost same first last rose begun =
    let none : is_failure kind ≡ true → ⊥ = λ fails.
    not_risen (subst (λ n. Rose n 0) first (subst (λ n. Rose failures n) (last refl) (rose fails))) in
    let is : told ≡ kind = same refl (not_true (is_failure kind) none) in (
      record { reason = subst (IsReason (length bytes)) (sym is) begun.reason; written = begun.written },
      λ bad. none (ap is_failure (sym is ∙ bad)),
    )

-- tables that can be read stay
pub stays_viewed : (P : Content → Type 0) (old new : State) (lost lost_now : Bool) (failures failures_now : ℕ)
    → failures ≡ 0 → ((rows : Rows) → Settled old rows → LeavesOnly old rows)
    → Viewed old lost failures new lost_now failures_now P → HasCleanDisk new → StaysReadable old lost_now new
stays_viewed P old new lost lost_now failures failures_now none leaves viewed clean =
    let at = viewed clean in
    let shown : (rows : Rows) (c : Content) → Settled old rows → (seen : AreSeen rows c)
    → Shows old lost failures (kept_of rows c seen) =
    λ rows c was seen. record { crash = leaves rows was; settled = λ _. was; none = λ _. none } in
    record {
      same = λ sure rows c was seen.
          (at.1 (kept_of rows c seen) (shown rows c was seen)).0.settled sure;
      crash = λ rows c was seen.
          (at.1 (kept_of rows c seen) (shown rows c was seen)).0.crash;
      clean = at.0;
    }

-- ---- of what was read whole
-- the same under a name
pub nothing_of : (old new : State) (kind : RefusalKind) (before : Option (List ℕ)) (text : Content → List ℕ)
    → OnOpen old new (λ _ _. IsFailure kind) → OnOpen old new (λ _ c. IsPart kind before before (text c))
nothing_of old new kind before text fails = follows old new (λ _ _. IsFailure kind)
    (λ _ c. IsPart kind before before (text c)) (λ _ c is. (
      record {
        reason = failure_is_reason (length (text c)) kind is;
        written = begins_none before (text c);
      },
      failure_is_not_bad kind is,
    )) fails

-- ---- of what was read
-- a beginning, where the archive was read before
pub own_part : {before after : Option (List ℕ)} {bytes : List ℕ} (kind : RefusalKind) → is_failure kind ≡ false
    → IsBegun before after bytes kind → IsPart kind before after bytes
own_part kind own begun = (begun, λ bad. absurd (true≢false (sym (ap is_failure bad) ∙ own)))

-- no refusal of one's own is 80
pub never_lost : {A : Type 0} (r : Result A RefusalKind) (P : Type 0) → IfErr r (λ kind. is_failure kind ≡ false)
    → IfErr r (λ kind. kind ≡ Storage → P)
never_lost (Ok a) P own = tt
never_lost (Err kind) P own = λ is. absurd (true≢false (sym (ap is_failure is) ∙ own))

-- ---- of tables that are not read whole, which an archive's always are
module _ {A : Type 0} (Is : List ℕ → Content → A → Type 0) (old mid new : State) (kind : RefusalKind)
    (bad : kind ≡ BadStored) (reads : HasCleanDisk mid → Reads Is old (Err kind) mid) where
  not_bad : (P Q : List ℕ → Content → Type 0) → OnOpen mid new P → OnOpen old new Q
  not_bad P Q more clean =
      let r = reads (more clean).0 in (
        r.stays.clean,
        λ society c has. absurd (failure_is_not_bad kind (r.refused society c has) bad),
      )

  pub whole_by_looks : {C : Type 0} (r : Result C RefusalKind) (P Q : List ℕ → Content → Type 0)
      → OnOk r (OnOpen mid new P) → OnOk r (OnOpen old new Q)
  whole_by_looks (Ok a) P Q did = not_bad P Q did
  whole_by_looks (Err e) P Q did = tt

  pub part_by_looks : {C : Type 0} (r : Result C RefusalKind) (P Q : RefusalKind → List ℕ → Content → Type 0)
      → IfErr r (λ e. OnOpen mid new (P e)) → IfErr r (λ e. OnOpen old new (Q e))
  part_by_looks (Ok a) P Q did = tt
  part_by_looks (Err e) P Q did = not_bad (P e) (Q e) did
