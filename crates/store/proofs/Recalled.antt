-- Rows that are read by themselves.
use Rattle.std.proofs.Common.{
  ◌≡◌,
  ◌⊎◌,
  inl,
  inr,
  Ok,
  Err,
  Bool,
  false,
  true,
  refl,
  subst,
  sym,
}
use Rattle.sqlite.specs.State.{HasCleanDisk, State}
use Rattle.sqlite.specs.Tree.{Trees}
use Rattle.record_text.specs.declared.refusal.RefusalKind.{RefusalKind}
use Rattle.record_text.specs.declared.refusal.RefusalKind.TheVariants.{BadStored}
use Rattle.store_tables.specs.Calls.{LeavesOnly, Settled}
use Rattle.store_tables.specs.Looking.{IsFailure}
use Rattle.store_tables.specs.Rows.{Rows}
use Rattle.store.specs.Histories.{is_storage}
use Rattle.store.specs.Recalling.{Recalls}
use Rattle.store.proofs.Looked.{storage_is}

pub ok_recalls : {A : Type 0} (Is : Rows → A → Type 0) (CanBeRead : Rows → Type 0) (old new : State) (a : A)
    → ((rows : Rows) → Settled old rows → Is rows a)
    → ((rows : Rows) → Settled old rows → Settled new rows) → ((rows : Rows) → Settled old rows → LeavesOnly new rows)
    → HasCleanDisk old → Recalls Is CanBeRead old (Ok a) new
ok_recalls Is CanBeRead old new a is same leaves clean = record {
  read = is;
  refused = tt;
  stays = record { same = λ sure. same; crash = leaves; clean = clean };
}

refused_as : (P : Type 0) (b : Bool) (kind result : RefusalKind) → is_storage result ≡ b → (b ≡ false → result ≡ kind)
    → IsFailure kind ⊎ ((kind ≡ BadStored) × P) → IsFailure result ⊎ ((result ≡ BadStored) × P)
refused_as P true kind result e same why = inl (inr (storage_is result e))
refused_as P false kind result e same why = subst (λ k. IsFailure k ⊎ ((k ≡ BadStored) × P)) (sym (same refl)) why

pub err_recalls : {A : Type 0} (Is : Rows → A → Type 0) (CanBeRead : Rows → Type 0) (old mid new : State)
    (kind result : RefusalKind)
    → ((rows : Rows) → Settled old rows → IsFailure kind ⊎ ((kind ≡ BadStored) × ¬ (CanBeRead rows)))
    → ((rows : Rows) → Settled old rows → LeavesOnly mid rows) → HasCleanDisk old
    → (is_storage result ≡ false → (rows : Rows) → LeavesOnly mid rows → Settled new rows)
    → (is_storage result ≡ false → result ≡ kind) → ((t : Trees) → new.may_leave t → mid.may_leave t)
    → Recalls Is CanBeRead old (Err result) new
err_recalls Is CanBeRead old mid new kind result why leaves clean settled same left = record {
  read = tt;
  refused = λ rows was. refused_as (¬ (CanBeRead rows)) (is_storage result) kind result refl same (why rows was);
  stays = record {
    same = λ sure rows was. settled sure rows (leaves rows was);
    crash = λ rows was t l. leaves rows was t (left t l);
    clean = clean;
  };
}
