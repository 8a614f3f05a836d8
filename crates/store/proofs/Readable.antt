-- What is read of tables, good or not, and looks as a call of a session.
use Rattle.std.proofs.Common.{◌≡◌, ◌⊎◌, inl, inr, Bool, true, false, List, [], ℕ, Option, None, Some, refl, sym, subst}
use Rattle.sqlite.specs.Held.{Held, state}
use Rattle.sqlite.specs.State.{HasCleanDisk, State}
use Rattle.sqlite_trees.specs.declared.store.Store.{Ghosts}
use Rattle.record_text.specs.declared.refusal.RefusalKind.{RefusalKind}
use Rattle.record_text.specs.declared.refusal.RefusalKind.TheVariants.{BadStored}
use Rattle.archive_state.specs.Content.{Content}
use Rattle.archive_core.specs.declared.request.Request.{Request}
use Rattle.staging.specs.Opened.{Import}
use Rattle.store_rows.specs.Meaning.{AreReadable}
use Rattle.store_tables.specs.Calls.{Settled}
use Rattle.store_tables.specs.Looking.{IsFailure}
use Rattle.store_tables.specs.Rows.{Rows}
use Rattle.store.specs.Histories.{is_storage}
use Rattle.store.specs.Importing.{Has}
use Rattle.store.specs.Lives.{IsCall}
use Rattle.store.specs.Looking.{IsUnread, StaysReadable}
use Rattle.store.specs.Standing.{Standing}
use Rattle.store.specs.Viewing.{OnReadable}
use Rattle.store.proofs.Imports.{InNoView, has_the_archive, keeps_archive}
use Rattle.store.proofs.Looked.{storage_is}
use Rattle.store.proofs.Viewed.{seen_of}

-- where the connection was asked afterwards whether it answers still
unread_by : (rows : Rows) (b : Bool) (kind result : RefusalKind) → is_storage result ≡ b → (b ≡ false → result ≡ kind)
    → IsFailure kind ⊎ ((kind ≡ BadStored) × ¬ (AreReadable rows))
    → IsFailure result ⊎ ((result ≡ BadStored) × ¬ (AreReadable rows))
unread_by rows true kind result e same bad = inl (inr (storage_is result e))
unread_by rows false kind result e same bad =
    subst (λ k. IsFailure k ⊎ ((k ≡ BadStored) × ¬ (AreReadable rows))) (sym (same refl)) bad

pub unread_as : (s : State) (kind result : RefusalKind) → (is_storage result ≡ false → result ≡ kind)
    → IsUnread s kind → IsUnread s result
unread_as s kind result same bad rows was = unread_by rows (is_storage result) kind result refl same (bad rows was)

-- tables that can be read have what they had, where they stay settled
still_readable : InNoView → (o : Option (Request × Import)) (old new : State) (society : List ℕ) (c : Content)
    → OnReadable old (λ rows _. Settled new rows) → Has society c o old → Has society c o new
still_readable view None old new society c same has =
    (has.0, same has.0 c has.1 (seen_of has.2), has.2)
still_readable view (Some (r, i)) old new society c same has =
    let keeps = keeps_archive view society c r i has.0 has.2 in
    (has.0, same has.0 c has.1 (seen_of keeps), has.2)

pub look_call : {S : Type 0} (g : Ghosts S) → InNoView → (old new : Held S) (was is : Standing) → was.is_lost ≡ false
    → is.import ≡ was.import
    → (HasCleanDisk (state g new) → StaysReadable (state g old) is.is_lost (state g new)) → IsCall g old was [] new is
look_call g view old new was is kept same did = inl (record {
  kept = kept;
  certain = λ _. refl;
  done = λ clean sure society c has. (
    c,
    refl,
    subst (λ o. Has society c o (state g new)) (sym same)
        (still_readable view was.import (state g old) (state g new) society c ((did clean).same sure) has),
  );
  crash = λ clean society c has t l.
      let archive = has_the_archive view society c was.import (state g old) has in (
        c,
        refl,
        (
          archive.0,
          (did clean).crash archive.0 c archive.1 (seen_of archive.2) t l,
          archive.2,
        ),
      );
  clean = λ clean. (did clean).clean;
})
