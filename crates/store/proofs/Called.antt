-- Each call of an archive as a call of a session.
use Rattle.std.proofs.Common.{
  ◌≡◌,
  inl,
  inr,
  ℕ,
  Bool,
  true,
  false,
  List,
  [],
  Option,
  None,
  Some,
  is_some,
  refl,
  sym,
  ap,
  ◌∙◌,
  subst,
  true≢false,
}
use Rattle.std.specs.List.{zip}
use Rattle.sqlite.specs.Held.{Held, state}
use Rattle.sqlite.specs.State.{HasCleanDisk, State}
use Rattle.sqlite_trees.specs.declared.store.Store.{Ghosts}
use Rattle.archive_state.specs.Content.{Content}
use Rattle.archive_core.specs.Machine.{Done}
use Rattle.archive_core.specs.declared.request.Request.{Request}
use Rattle.staging.specs.Opened.{Import}
use Rattle.store_tables.specs.Calls.{Settled}
use Rattle.store_tables.specs.Rows.{Rows}
use Rattle.store.specs.Archives.{LeavesArchive}
use Rattle.store.specs.Calls.{Performs, Stays}
use Rattle.store.specs.Histories.{AreLost, Outcome, in_doubt}
use Rattle.store.specs.Importing.{Has}
use Rattle.store.specs.Lives.{IsCall}
use Rattle.store.specs.Standing.{Standing, asked_by, heard, shuts, standing}
use Rattle.store.proofs.Imports.{InNoView, has_the_archive}
use Rattle.store.proofs.Running.{none_in_doubt}

-- tables that stay settled have what they had
pub still_has : (o : Option (Request × Import)) (old new : State) (society : List ℕ) (c : Content)
    → ((rows : Rows) → Settled old rows → Settled new rows) → Has society c o old → Has society c o new
still_has None old new society c same has = (has.0, same has.0 has.1, has.2)
still_has (Some both) old new society c same has = (has.0, same has.0 has.1, has.2)

-- requests on a lost archive, and on one with an import, are not heard
pub unheard_lost : (lost : Bool) (i : Option Import) (calls : List Done) → lost ≡ true → heard (shuts lost i) calls ≡ []
unheard_lost lost None calls e = ap (λ b. heard b calls) e
unheard_lost lost (Some i) calls e = refl

-- an archive that takes requests has no import, and is not lost
pub no_import : (i : Option Import) → is_some i ≡ false → i ≡ None
no_import None e = refl
no_import (Some i) e = absurd (true≢false e)

pub not_shut : (lost : Bool) (i : Option Import) → shuts lost i ≡ false → (lost ≡ false) × (i ≡ None)
not_shut lost None e = (e, refl)
not_shut lost (Some i) e = absurd (true≢false e)

pub heard_all : (lost : Bool) (i : Option Import) (calls : List Done) → lost ≡ false → i ≡ None
    → heard (shuts lost i) calls ≡ calls
heard_all lost i calls kept none = ap (λ (o : Option Import). heard (shuts lost o) calls) none
    ∙ ap (λ b. heard b calls) kept

pub is_free : (lost : Bool) (i : Option Import) → lost ≡ false → i ≡ None → shuts lost i ≡ false
is_free lost i kept none = ap (λ (o : Option Import). shuts lost o) none ∙ kept

module _ {S : Type 0} (g : Ghosts S) (old new : Held S) (was is : Standing) where
  -- the call was refused for how the archive stands
  pub still_call : (calls : List Done) → calls ≡ [] → new ≡ old → is ≡ was → IsCall g old was calls new is
  still_call calls none same stands = inr (record { unheard = none; same = same; stands = stands })

  -- requests on an archive that takes them
  pub ready_call : (calls : List Done) → was.is_lost ≡ false → was.import ≡ None → is.import ≡ None
      → (is.is_lost ≡ false → in_doubt calls ≡ None)
      → (HasCleanDisk (state g new) → Performs (state g old) calls (state g new)) → IsCall g old was calls new is
  ready_call calls kept none after certain did = inl (record {
    kept = kept;
    certain = certain;
    done = λ clean sure society c has.
        let to = (did clean).done (certain sure) society c
        (subst (λ o. Has society c o (state g old)) none has) in
        (to.0, to.1, subst (λ o. Has society to.0 o (state g new)) (sym after) to.2);
    crash = λ clean society c has. (did clean).crash society c (subst (λ o. Has society c o (state g old)) none has);
    clean = λ clean. (did clean).clean;
  })

  -- something that is read
  pub read_call : InNoView → (failed : Bool) → was.is_lost ≡ false → is.import ≡ was.import → is.is_lost ≡ failed
      → (HasCleanDisk (state g new) → Stays (state g old) failed (state g new)) → IsCall g old was [] new is
  read_call view failed kept same lost did = inl (record {
    kept = kept;
    certain = λ _. refl;
    done = λ clean sure society c has. (
      c,
      refl,
      subst (λ o. Has society c o (state g new)) (sym same)
          (still_has was.import (state g old) (state g new) society c ((did clean).same (sym lost ∙ sure)) has),
    );
    crash = λ clean society c has t l.
        let archive = has_the_archive view society c was.import (state g old) has in
        (c, refl, (archive.0, (did clean).crash archive.0 archive.1 t l, archive.2));
    clean = λ clean. (did clean).clean;
  })

  -- rows of an import are written or removed: what the archive holds stays
  pub staged_call : was.is_lost ≡ false
      → (HasCleanDisk (state g new) → is.is_lost ≡ false → (society : List ℕ) (c : Content)
      → Has society c was.import (state g old) → Has society c is.import (state g new))
      → (HasCleanDisk (state g new) → (society : List ℕ) (c : Content) → Has society c was.import (state g old)
      → LeavesArchive (state g new) society (λ found. found ≡ c))
      → (HasCleanDisk (state g new) → HasCleanDisk (state g old)) → IsCall g old was [] new is
  staged_call kept has_still leaves clean = inl (record {
    kept = kept;
    certain = λ _. refl;
    done = λ now sure society c has. (c, refl, has_still now sure society c has);
    crash = λ now society c has t l. leaves now society c has t l;
    clean = clean;
  })

-- requests one after the other
pub run_call : {S : Type 0} (g : Ghosts S) (old new : Held S) (r : Request) (rs : List Request) (os : List Outcome)
    (lost is_lost : Bool) (o n : Option Import)
    → (o ≡ None → AreLost lost os is_lost × (n ≡ None))
    → (lost ≡ true → (new ≡ old) × (is_lost ≡ lost) × (n ≡ o))
    → (lost ≡ false → is_some o ≡ true → (new ≡ old) × (is_lost ≡ lost) × (n ≡ o))
    → (HasCleanDisk (state g new) → shuts lost o ≡ false → Performs (state g old) (zip rs os) (state g new))
    → IsCall g old (standing r lost o) (heard (shuts lost o) (zip rs os)) new (standing r is_lost n)
run_call g old new r rs os true is_lost o n alone gone waits did =
    let still = gone refl in
    still_call g old new (standing r true o) (standing r is_lost n) (heard (shuts true o) (zip rs os))
    (unheard_lost true o (zip rs os) refl) still.0
    (ap (λ (l : Bool). standing r l n) still.1 ∙ ap (standing r true) still.2)
run_call g old new r rs os false is_lost (Some i) n alone gone waits did =
    let still = waits refl refl in
    still_call g old new (standing r false (Some i)) (standing r is_lost n) [] refl still.0
    (ap (λ (l : Bool). standing r l n) still.1 ∙ ap (standing r false) still.2)
run_call g old new r rs os false is_lost None n alone gone waits did =
    let goes = alone refl in
    ready_call g old new (standing r false None) (standing r is_lost n) (zip rs os) refl refl
    (ap (asked_by r) goes.1) (λ sure. none_in_doubt rs os (subst (λ b. AreLost false os b) sure goes.0))
    (λ clean. did clean refl)
