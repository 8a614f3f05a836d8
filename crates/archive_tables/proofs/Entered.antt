-- A page that was entered, of what was found by looks that left the archive as it was.
use Rattle.std.proofs.Common.{
  ◌≡◌,
  ◌⊎◌,
  ◌∙◌,
  ℕ,
  Bool,
  List,
  true,
  false,
  Ok,
  Err,
  ap,
  inl,
  inr,
  refl,
  subst,
  sym,
}
use Rattle.std.specs.Prelude.{Option, Result, cond}
use Rattle.sqlite.specs.Held.{state}
use Rattle.sqlite.specs.State.{HasCleanDisk}
use Rattle.sqlite_trees.specs.declared.store.Store.{Ghosts}
use Rattle.archive_core.specs.Machine.{Done}
use Rattle.archive_state.specs.Content.{Content}
use Rattle.record_text.specs.declared.refusal.RefusalKind.{RefusalKind}
use Rattle.record_text.specs.declared.refusal.RefusalKind.TheVariants.{OutOfMemory}
use Rattle.receipts.specs.declared.answer.Answer.{Answer}
use Rattle.staging.specs.Opened.{Import}
use Rattle.store.specs.Archives.{HasArchive}
use Rattle.store.specs.Calls.{Performs}
use Rattle.store.specs.Histories.{has_broken, is_storage, must_reopen}
use Rattle.store.specs.Shut.{is_shut}
use Rattle.store.specs.Standing.{must_wait, shuts}
use Rattle.store.specs.declared.archive.Archive.{Archive}
use Rattle.store.proofs.Viewed.{seen_of}
use Rattle.store_tables.specs.Looking.{IsFailure}
use Rattle.archive_input.specs.Applying.{PerformsAll, outcome_when_shut}
use Rattle.row_references.specs.declared.words.NumberWord.{NumberWord}
use Rattle.archive_tables.specs.Ends.{OnRead}
use Rattle.archive_output.specs.Reading.{OnlyReads}
use Rattle.page_batches.specs.Batches.{rows_by, rows_on, unplaced}
use Rattle.page_batches.specs.Looks.{Found, looks_of}
use Rattle.page_batches.specs.declared.rows.BatchRefusal.{BatchRefusal}
use Rattle.page_entries.specs.Entries.{page_of}
use Rattle.page_entries.specs.declared.dates.DateOrder.{DateOrder}
use Rattle.page_entries.specs.declared.entries.PageEntry.{PageEntry}
use Rattle.archive_tables.specs.Entering.{
  EntersCounted,
  EntersOf,
  EntersPage,
  IsDone,
  IsDoneOrLeft,
  IsEntered,
  IsLeft,
  IsRefused,
}
use Rattle.archive_tables.specs.declared.entering.PageEnd.{PageEnd}
use Rattle.archive_tables.specs.declared.entering.PageEnd.TheVariants.{Entered, Unread}
use Rattle.archive_tables.specs.Looking.{AreLooked, Looks}

pub true_is_not : (b : Bool) → b ≡ false → b ≡ true → ⊥
true_is_not b off on = let both : false ≡ true = sym off ∙ on in absurd cc

module _ {S : Type 0} (g : Ghosts S) (old looked new : Archive S g) (was_kept : old.is_lost ≡ false)
    (reads : OnlyReads g old looked) (kept : looked.is_lost ≡ false) where
  -- ---- requests after the looks
  pub same_lost : looked.is_lost ≡ old.is_lost
  same_lost = kept ∙ sym was_kept

  pub same_shut : is_shut looked ≡ is_shut old
  same_shut = ap (λ (l : Bool). shuts l looked.import) same_lost
      ∙ ap (λ (i : Option Import). shuts old.is_lost i) reads.import

  pub same_refusal : outcome_when_shut looked ≡ outcome_when_shut old
  same_refusal = ap (λ (l : Bool). cond l must_reopen must_wait) same_lost

  still_there : HasCleanDisk (state g looked.conn) → (society : List ℕ) (c : Content)
      → HasArchive society c (state g old.conn) → HasArchive society c (state g looked.conn)
  still_there clean society c has = ((reads.still kept clean).1 society c has).0

  performs_on : (calls : List Done) → Performs (state g looked.conn) calls (state g new.conn)
      → Performs (state g old.conn) calls (state g new.conn)
  performs_on calls p =
      let stays = reads.stays p.clean in
      record {
        done = λ sure society c has. p.done sure society c (still_there p.clean society c has);
        rows = λ sure society c rows was keeps.
            p.rows sure society c rows (stays.same kept rows c was (seen_of keeps)) keeps;
        crash = λ society c has. p.crash society c (still_there p.clean society c has);
        clean = stays.clean;
      }

  pub performs_all : (calls : List Done) → PerformsAll g looked calls new → PerformsAll g old calls new
  performs_all calls p clean takes = performs_on calls (p clean (same_shut ∙ takes))

  module _ (token : List ℕ) (source : ℕ) (entries : List PageEntry) (result : Result Answer BatchRefusal)
      (found : List Found)
      (looks : OnRead (state g old.conn) (state g looked.conn)
      (λ c. AreLooked (Ok found) (looks_of c token source entries))) where
    -- the disk was clean after the looks
    clean_before : (d : IsDone g token source entries looked result new found) → (shut : Bool)
        → is_shut looked ≡ shut → HasCleanDisk (state g new.conn) → HasCleanDisk (state g looked.conn)
    clean_before d false takes clean = (d.done.0 clean takes).clean
    clean_before d true shut clean =
        subst (λ (a : Archive S g). HasCleanDisk (state g a.conn)) (d.done.2 shut).1 clean

    entered : IsDone g token source entries looked result new found → IsEntered g token source entries old result new
    entered d = record {
      rows = d.rows;
      outcome = d.outcome;
      right = λ clean stored c settled seen.
          let at = (looks (clean_before d (is_shut looked) refl clean)).1 stored c settled seen in
          ap (rows_by entries) at.0 ∙ d.right;
      performed = performs_all _ d.done.0;
      lost = λ takes. d.done.1 (same_shut ∙ takes);
      waits = λ shut.
          let none = d.done.2 (same_shut ∙ shut) in
          (none.0.0 ∙ same_refusal, subst (OnlyReads g old) (sym none.1) reads);
      is = d.is;
    }

    -- the refusal of a row that has no place
    by_rows : (e : BatchRefusal) → (e ≡ unplaced OutOfMemory) ⊎ (rows_by entries (Ok found) ≡ Err e) → (right : Looks)
        → AreLooked (Ok found) right → IsFailure e.refusal.kind ⊎ (rows_by entries right ≡ Err e)
    by_rows e (inl want) right at = inl (inl (ap (λ (r : BatchRefusal). r.refusal.kind) want))
    by_rows e (inr is) right at = inr (ap (rows_by entries) at ∙ is)

    left : IsLeft g token source entries looked result new found → IsRefused g token source entries old result new
    left l = record {
      why = l.0;
      is = l.1;
      reads = subst (OnlyReads g old) (sym l.3) reads;
      lost = λ was. absurd (true_is_not looked.is_lost kept
          (subst (λ (a : Archive S g). a.is_lost ≡ true) l.3 was));
      right = subst (λ (a : Archive S g). OnRead (state g old.conn) (state g a.conn)
          (λ c. IsFailure l.0.refusal.kind ⊎ (rows_on c token source entries ≡ Err l.0))) (sym l.3)
          (λ clean.
          let at = looks clean in (
            at.0,
            λ rows c settled seen.
                let here = at.1 rows c settled seen in
                (by_rows l.0 l.2 (looks_of c token source entries) here.0, here.1),
          ));
    }

    entered_by : IsDoneOrLeft g token source entries looked result new found
        → EntersOf g token source entries old result new
    entered_by (inl d) = inl (entered d)
    entered_by (inr l) = inr (left l)

-- looks that were refused
module _ {S : Type 0} (g : Ghosts S) (old new : Archive S g) (reads : OnlyReads g old new) (token : List ℕ)
    (source : ℕ) (entries : List PageEntry) (kind : RefusalKind)
    (looks : OnRead (state g old.conn) (state g new.conn) (λ c. AreLooked (Err kind) (looks_of c token source entries)))
    (lost : new.is_lost ≡ is_storage kind) where
  by_looks : (right : Looks) → AreLooked (Err kind) right
      → IsFailure kind ⊎ (rows_by entries right ≡ Err (unplaced kind))
  by_looks right (inl fails) = inl fails
  by_looks right (inr is) = inr (ap (rows_by entries) is)

  refused_by_looks : (e : BatchRefusal) → e ≡ unplaced kind → EntersOf g token source entries old (Err e) new
  refused_by_looks e is = inr (record {
    why = unplaced kind;
    is = ap Err is;
    reads = reads;
    lost = λ was. sym lost ∙ was;
    right = λ clean.
        let at = looks clean in (
          at.0,
          λ rows c settled seen.
              let here = at.1 rows c settled seen in (by_looks (looks_of c token source entries) here.0, here.1),
        );
  })

-- ---- both
module _ {S : Type 0} (g : Ghosts S) (old looked new : Archive S g) (was_kept : old.is_lost ≡ false)
    (reads : OnlyReads g old looked) (token : List ℕ) (source : ℕ) (entries : List PageEntry) (r : Looks)
    (looks : OnRead (state g old.conn) (state g looked.conn) (λ c. AreLooked r (looks_of c token source entries)))
    (lost : looked.is_lost ≡ has_broken r) where
  looked_as : (q : Looks) → r ≡ q
      → OnRead (state g old.conn) (state g looked.conn) (λ c. AreLooked q (looks_of c token source entries))
  looked_as q is = subst (λ (p : Looks). OnRead (state g old.conn) (state g looked.conn)
      (λ c. AreLooked p (looks_of c token source entries))) is looks

  lost_as : (q : Looks) → r ≡ q → looked.is_lost ≡ has_broken q
  lost_as q is = lost ∙ ap (λ (p : Looks). has_broken p) is

  pub page_entered : (found : List Found) → r ≡ Ok found → (result : Result Answer BatchRefusal)
      → IsDoneOrLeft g token source entries looked result new found
      → EntersOf g token source entries old result new
  page_entered found is result did = entered_by g old looked new was_kept reads (lost_as (Ok found) is) token source
      entries result found (looked_as (Ok found) is) did

  pub page_refused : (kind : RefusalKind) → r ≡ Err kind → (e : BatchRefusal) → e ≡ unplaced kind
      → EntersOf g token source entries old (Err e) looked
  page_refused kind is e same = refused_by_looks g old looked reads token source entries kind
      (looked_as (Err kind) is) (lost_as (Err kind) is) e same

-- ---- a page, by its entries
pub page_by : {S : Type 0} (g : Ghosts S) (token : List ℕ) (source : NumberWord) (order : Option DateOrder)
    (bytes : List ℕ) (old new : Archive S g) (entries : List PageEntry) → page_of order bytes ≡ Ok entries
    → (r : Result PageEnd BatchRefusal) → EntersCounted g token source entries old r new
    → EntersPage g token source order bytes old r new
page_by g token source order bytes old new entries is (Ok (Entered answer words)) did = (entries, is, did)
page_by g token source order bytes old new entries is (Ok (Unread fault)) did = absurd did
page_by g token source order bytes old new entries is (Err e) did = inr (entries, is, did)
