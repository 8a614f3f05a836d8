-- Calls that read, from what the layers below say of rows.
use Rattle.std.proofs.Common.{
  ◌≡◌,
  inr,
  ℕ,
  ℤ,
  Bool,
  true,
  false,
  [],
  List,
  Result,
  Ok,
  Err,
  IfOk,
  refl,
  sym,
  subst,
  true≢false,
}
use Rattle.std.specs.FinMap.{get, get-empty}
use Rattle.std.specs.Prelude.{Option, Some, None}
use Rattle.gedcom_date.specs.declared.value.Span.{Span}
use Rattle.record_kinds.specs.declared.record.Record.{Record}
use Rattle.std.specs.Ordering.{nat_cmp}
use Rattle.sqlite.specs.State.{HasCleanDisk, State}
use Rattle.sqlite.specs.Tree.{Trees}
use Rattle.record_text.specs.declared.refusal.RefusalKind.{RefusalKind}
use Rattle.record_text.specs.declared.refusal.RefusalKind.TheVariants.{Storage}
use Rattle.archive_state.specs.Content.{Content, Records, nothing}
use Rattle.date_spans.specs.Between.{AreAll, IsBetween}
use Rattle.archive_state.proofs.Soundness.{none_there, nothing_is_sound}
use Rattle.store_tables.specs.Calls.{LeavesOnly, Settled}
use Rattle.store_tables.specs.Looking.{IsFailure}
use Rattle.store_tables.specs.Rows.{Rows, nothing_yet}
use Rattle.store_rows.specs.Links.{AreLinked}
use Rattle.store_rows.specs.Meaning.{AllShallow, IsRecordAt, IsSlipAt, Means}
use Rattle.store_rows.specs.Sought.{IsSought, Sought}
use Rattle.store_rows.specs.Spans.{IsSpanned}
use Rattle.store.specs.Archives.{HasArchive, Keeps}
use Rattle.store.specs.Calls.{Reads}
use Rattle.store.specs.Histories.{is_storage}

pub storage_is : (k : RefusalKind) → is_storage k ≡ true → k ≡ Storage
storage_is Storage e = refl
storage_is _ e = absurd (true≢false (sym e))

pub ok_reads : {A : Type 0} (Is : List ℕ → Content → A → Type 0) (old new : State) (a : A)
    → ((rows : Rows) (society : List ℕ) (c : Content) → Settled old rows → Keeps society c rows → Is society c a)
    → ((rows : Rows) → Settled old rows → Settled new rows) → ((rows : Rows) → Settled old rows → LeavesOnly new rows)
    → HasCleanDisk old → Reads Is old (Ok a) new
ok_reads Is old new a is same leaves clean = record {
  read = λ society c has. is has.0 society c has.1 has.2;
  refused = tt;
  stays = record { same = λ sure. same; crash = leaves; clean = clean };
}

fails_as : (b : Bool) (kind result : RefusalKind) → is_storage result ≡ b → (b ≡ false → result ≡ kind) → IsFailure kind
    → IsFailure result
fails_as true kind result e same failure = inr (storage_is result e)
fails_as false kind result e same failure = subst IsFailure (sym (same refl)) failure

-- where the connection was asked afterwards whether it answers still
pub err_reads : {A : Type 0} (Is : List ℕ → Content → A → Type 0) (old mid new : State) (kind result : RefusalKind)
    → ((society : List ℕ) (c : Content) → HasArchive society c old → IsFailure kind)
    → ((rows : Rows) → Settled old rows → LeavesOnly mid rows) → HasCleanDisk old
    → (is_storage result ≡ false → (rows : Rows) → LeavesOnly mid rows → Settled new rows)
    → (is_storage result ≡ false → result ≡ kind) → ((t : Trees) → new.may_leave t → mid.may_leave t)
    → Reads Is old (Err result) new
err_reads Is old mid new kind result failure leaves clean settled same left = record {
  read = tt;
  refused = λ society c has. fails_as (is_storage result) kind result refl same (failure society c has);
  stays = record {
    same = λ sure rows was. settled sure rows (leaves rows was);
    crash = λ rows was t l. leaves rows was t (left t l);
    clean = clean;
  };
}

-- ---- a new archive
new_means : (society : List ℕ) → Means (nothing_yet society) nothing
new_means society = record {
  batch = refl;
  records = λ n. subst (IsRecordAt (nothing_yet society) n) (sym (get-empty nat_cmp n)) refl;
  next = refl;
  receipts = refl;
  slips = λ n. subst (IsSlipAt (nothing_yet society) n) (sym (get-empty nat_cmp n)) refl;
}

new_shallow : AllShallow nothing
new_shallow = record { records = λ n x e. absurd (none_there n x e); slips = λ n x e. absurd (none_there n x e) }

-- no record is there, and so none without its span
none_spanned : (o : Option Record) (span : Option Span) → o ≡ None → IsSpanned o span
none_spanned None span e = tt
none_spanned (Some r) span e = absurd cc

new_spans : (n : ℕ) → IsSpanned (get nothing.records n) None
new_spans n = none_spanned (get nothing.records n) None (get-empty nat_cmp n)

-- and none without its links, or without what it is looked for by
none_linked : (n : ℕ) (o : Option Record) → o ≡ None → AreLinked n o []
none_linked n None e = tt
none_linked n (Some r) e = absurd cc

new_links : (n : ℕ) → AreLinked n (get nothing.records n) []
new_links n = none_linked n (get nothing.records n) (get-empty nat_cmp n)

none_sought : (o : Option Record) (found : Option Sought) → o ≡ None → IsSought o found
none_sought None found e = tt
none_sought (Some r) found e = absurd cc

new_soughts : (n : ℕ) → IsSought (get nothing.records n) None
new_soughts n = none_sought (get nothing.records n) None (get-empty nat_cmp n)

pub new_keeps : (society : List ℕ) → Keeps society nothing (nothing_yet society)
new_keeps society = record {
  means = new_means society;
  shallow = new_shallow;
  sound = nothing_is_sound;
  society_is = refl;
  dated = record { version = refl; has_spans = refl };
  spans = new_spans;
  links = new_links;
  soughts = new_soughts;
}

-- ---- days
-- what is answered of other words for the same is answered of it
ok_as : {A E : Type 0} (result : Result A E) (P Q : A → Type 0) → ((a : A) → P a → Q a) → IfOk result P → IfOk result Q
ok_as (Ok a) P Q turn h = turn a h
ok_as (Err e) P Q turn h = tt

pub reads_as : {A : Type 0} (Is As : List ℕ → Content → A → Type 0) (old new : State) (result : Result A RefusalKind)
    → ((society : List ℕ) (c : Content) (a : A) → Is society c a → As society c a) → Reads Is old result new
    → Reads As old result new
reads_as Is As old new result turn reads = record {
  read = ok_as result _ _ (λ a all society c has. turn society c a (all society c has)) reads.read;
  refused = reads.refused;
  stays = reads.stays;
}

-- the days of a look are those that it was asked for
pub days_same : (m : Records) (ns : List ℕ) (a b first last : ℤ) → a ≡ first → b ≡ last
    → AreAll (IsBetween m a b) ns → AreAll (IsBetween m first last) ns
days_same m ns a b first last is are all =
    subst (λ x. AreAll (IsBetween m x last) ns) is (subst (λ x. AreAll (IsBetween m a x) ns) are all)
