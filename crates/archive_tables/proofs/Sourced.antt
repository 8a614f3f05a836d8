-- What was entered after looks for the number of a source, as what is said of the archive before them.
use Rattle.std.proofs.Common.{◌≡◌, ◌∙◌, ℕ, Bool, List, [], ◌∷◌, true, false, Ok, Err, ap, inl, inr, refl, subst, sym}
use Rattle.std.specs.Prelude.{Option, Result}
use Rattle.sqlite.specs.Held.{state}
use Rattle.sqlite.specs.State.{HasCleanDisk, State}
use Rattle.sqlite_trees.specs.declared.store.Store.{Ghosts}
use Rattle.archive_state.specs.Content.{Content}
use Rattle.receipts.specs.declared.answer.Answer.{Answer}
use Rattle.record_text.specs.declared.refusal.Refusal.{Refusal}
use Rattle.record_text.specs.declared.refusal.RefusalKind.{RefusalKind}
use Rattle.record_text.specs.declared.refusal.RefusalKind.TheVariants.{OutOfMemory}
use Rattle.request_csv.specs.Batches.{ReadsRows, placeless}
use Rattle.request_csv.specs.declared.batch_rows.BatchRow.{BatchRow}
use Rattle.row_references.specs.References.{kept_number}
use Rattle.row_references.specs.Words.{number_in}
use Rattle.row_references.specs.declared.words.NumberWord.{NumberWord}
use Rattle.row_references.specs.declared.words.NumberWord.TheVariants.{Number, Reference}
use Rattle.store.specs.Histories.{Outcome, has_broken}
use Rattle.store.specs.Shut.{is_shut}
use Rattle.store.specs.Viewing.{OnReadable}
use Rattle.store.specs.declared.archive.Archive.{Archive}
use Rattle.store_tables.specs.Rows.{Rows}
use Rattle.archive_output.proofs.Calls.{reads_then}
use Rattle.archive_output.specs.Reading.{OnlyReads}
use Rattle.page_batches.specs.declared.rows.BatchRefusal.{BatchRefusal}
use Rattle.page_entries.specs.declared.dates.DateOrder.{DateOrder}
use Rattle.page_entries.specs.declared.entries.PageEntry.{PageEntry}
use Rattle.archive_tables.specs.Ends.{OnRead}
use Rattle.archive_tables.specs.Entering.{EntersOf, EntersPage}
use Rattle.archive_tables.specs.Looking.{IsSourced}
use Rattle.archive_tables.specs.Making.{
  EntersLacking,
  EntersTried,
  HasMade,
  IsAsked,
  IsStopped,
  Made,
  MakesPlace,
  backwards,
}
use Rattle.archive_tables.specs.RowBatches.{EntersOf as EntersBatchOf}
use Rattle.archive_tables.specs.Sources.{BySource, HadNumber}
use Rattle.archive_tables.specs.declared.entering.PageEnd.{PageEnd}
use Rattle.archive_tables.specs.declared.entering.PageEnd.TheVariants.{Entered, Unread}
use Rattle.archive_tables.specs.declared.making.MadePlace.{MadePlace}
use Rattle.archive_tables.proofs.Entered.{performs_all, same_refusal, same_shut, true_is_not}

-- ---- a disk that is clean after what was done was so before it
module _ {S : Type 0} (g : Ghosts S) (token : List ℕ) where
  abbrev IsClean : Archive S g → Type 0
  IsClean a = HasCleanDisk (state g a.conn)

  clean_as : (old new : Archive S g) → new ≡ old → IsClean new → IsClean old
  clean_as old new same clean = subst IsClean same clean

  clean_of_entries : (n : ℕ) (entries : List PageEntry) (old : Archive S g) (result : Result Answer BatchRefusal)
      (new : Archive S g) → EntersOf g token n entries old result new → (shut : Bool) → is_shut old ≡ shut
      → IsClean new → IsClean old
  clean_of_entries n entries old result new (inl e) false takes clean = (e.performed clean takes).clean
  clean_of_entries n entries old result new (inl e) true shut clean = ((e.waits shut).1.stays clean).clean
  clean_of_entries n entries old result new (inr bad) shut is clean = (bad.reads.stays clean).clean

  clean_of_page : (n : ℕ) (order : Option DateOrder) (bytes : List ℕ) (old : Archive S g)
      (result : Result PageEnd BatchRefusal) (new : Archive S g)
      → EntersPage g token (Number n) order bytes old result new → IsClean new → IsClean old
  clean_of_page n order bytes old (Ok (Entered answer words)) new did clean =
      clean_of_entries n did.0 old (Ok answer) new did.2.1 (is_shut old) refl clean
  clean_of_page n order bytes old (Ok (Unread fault)) new did clean = clean_as old new did.1 clean
  clean_of_page n order bytes old (Err e) new (inl want) clean = clean_as old new want.1 clean
  clean_of_page n order bytes old (Err e) new (inr did) clean =
      clean_of_entries n did.0 old (Err e) new did.2 (is_shut old) refl clean

  clean_of_asked : (path : List ℕ) (parent : Option ℕ) (old : Archive S g) (result : Outcome) (new : Archive S g)
      → IsAsked g token path parent old result new → (shut : Bool) → is_shut old ≡ shut → IsClean new → IsClean old
  clean_of_asked path parent old result new (inl steps) false takes clean = (steps.0 clean takes).clean
  clean_of_asked path parent old result new (inl steps) true shut clean = clean_as old new (steps.2 shut).1 clean
  clean_of_asked path parent old result new (inr want) shut is clean = clean_as old new want.1 clean

  clean_of_place : (path : List ℕ) (old : Archive S g) (result : Outcome) (new : Archive S g)
      → MakesPlace g token path old result new → IsClean new → IsClean old
  clean_of_place path old result new (inl asks) clean =
      (asks.reads.stays (clean_of_asked path asks.parent asks.between result new asks.done (is_shut asks.between) refl
      clean)).clean
  clean_of_place path old result new (inr none) clean = (none.reads.stays clean).clean

  clean_of_made : (back : List MadePlace) (old new : Archive S g) → Made g token old back new → IsClean new
      → IsClean old
  clean_of_made [] old new same clean = clean_as old new same clean
  clean_of_made (m ∷ before) old new did clean =
      clean_of_made before old did.0 did.2 (clean_of_place m.path did.0 (Ok did.1) new did.3 clean)

  clean_of_all : (paths : List (List ℕ)) (n : ℕ) (made : List MadePlace) (old new : Archive S g)
      → HasMade g token paths n made old new → IsClean new → IsClean old
  clean_of_all paths n made old new has clean = clean_of_made (backwards made) old new has.made_so clean

  clean_of_last : (paths : List (List ℕ)) (made : List MadePlace) (old : Archive S g) (e : Refusal) (new : Archive S g)
      → IsStopped g token paths made old e new → IsClean new → IsClean old
  clean_of_last paths made old e new s clean = clean_of_all paths s.n made old s.mid s.before (elim s.why [
    | inl refuses ↦ clean_of_place s.path s.mid (Err e) new refuses clean
    | inr lacks ↦ clean_of_place s.path s.mid (Ok lacks.1) new lacks.2 clean
  ])

  clean_of_tried : (n : ℕ) (order : Option DateOrder) (bytes : List ℕ) (paths : List (List ℕ)) (old : Archive S g)
      (made : List MadePlace) (result : Result PageEnd BatchRefusal) (new : Archive S g)
      → EntersTried g token n order bytes paths old made result new → IsClean new → IsClean old
  clean_of_tried n order bytes paths old made result new (inl did) clean =
      clean_of_all paths _ made old did.0 did.1 (clean_of_page n order bytes did.0 result new did.2 clean)
  clean_of_tried n order bytes paths old made result new (inr did) clean =
      clean_of_last paths made old did.0 new did.1 clean

-- ---- after looks that left the archive as it was
module _ {S : Type 0} (g : Ghosts S) (old mid : Archive S g) (was_kept : old.is_lost ≡ false)
    (reads : OnlyReads g old mid) (kept : mid.is_lost ≡ false) where
  -- what was read then could be read before
  readable_before : (P : Rows → Content → Type 0) → HasCleanDisk (state g mid.conn)
      → OnReadable (state g mid.conn) P → OnReadable (state g old.conn) P
  readable_before P clean read rows c was seen = read rows c ((reads.stays clean).same kept rows c was seen) seen

  read_before : (new : State) (P : Content → Type 0) → OnRead (state g mid.conn) new P
      → OnRead (state g old.conn) new P
  read_before new P read clean =
      let at = read clean in (
        (reads.stays at.0).clean,
        λ rows c was seen. at.1 rows c ((reads.stays at.0).same kept rows c was seen) seen,
      )

  free_as : (shut : Bool) → is_shut old ≡ shut → is_shut mid ≡ shut
  free_as shut is = same_shut g old mid mid was_kept reads kept ∙ is

  module _ (token : List ℕ) (n : ℕ) (new : Archive S g) where
    -- ---- the entries of a page
    module _ (entries : List PageEntry) (result : Result Answer BatchRefusal) where
      entries_before : EntersOf g token n entries mid result new → EntersOf g token n entries old result new
      entries_before (inl e) = inl (record {
        rows = e.rows;
        outcome = e.outcome;
        right = λ clean. readable_before _
            (clean_of_entries g token n entries mid result new (inl e) (is_shut mid) refl clean) (e.right clean);
        performed = performs_all g old mid new was_kept reads kept _ e.performed;
        lost = λ takes. e.lost (free_as false takes);
        waits = λ shut.
            let w = e.waits (free_as true shut) in
            (w.0 ∙ same_refusal g old mid new was_kept reads kept, reads_then g old mid new kept reads w.1);
        is = e.is;
      })
      entries_before (inr bad) = inr (record {
        why = bad.why;
        is = bad.is;
        reads = reads_then g old mid new kept reads bad.reads;
        lost = bad.lost;
        right = read_before (state g new.conn) _ bad.right;
      })

    -- ---- rows, on an archive that takes requests
    module _ (input : Option (List ℕ)) (batch : List BatchRow) (all : ReadsRows input batch)
        (takes : is_shut old ≡ false) (outcome : Outcome) where
      batch_before : EntersBatchOf g token n input mid outcome new → EntersBatchOf g token n input old outcome new
      batch_before (inl e) =
          let free : is_shut mid ≡ false = free_as false takes in
          inl (record {
            numbers = e.numbers;
            rows = e.rows;
            entries = e.entries;
            read = λ _. e.read free;
            right = λ _ clean. readable_before _ (e.done.0 clean free).clean (e.right free clean);
            done = (
              performs_all g old mid new was_kept reads kept _ e.done.0,
              λ _. e.done.1 free,
              λ shut. absurd (true_is_not (is_shut old) takes shut),
            );
          })
      batch_before (inr (inl r)) = inr (inl (record {
        why = r.why;
        is = r.is;
        reads = reads_then g old mid new kept reads r.reads;
        lost = r.lost;
        rows = r.rows;
        read = r.read;
        right = λ clean. readable_before _ (r.reads.stays clean).clean (r.right clean);
      }))
      batch_before (inr (inr want)) = inr (inl (record {
        why = placeless OutOfMemory;
        is = want.0;
        reads = subst (OnlyReads g old) (sym want.1) reads;
        lost = λ was. absurd (true_is_not mid.is_lost kept
            (subst (λ (a : Archive S g). a.is_lost ≡ true) want.1 was));
        rows = all.0;
        read = all.1;
        right = λ clean rows c was seen. inl (inl refl);
      }))

      clean_of_batch : EntersBatchOf g token n input mid outcome new → HasCleanDisk (state g new.conn)
          → HasCleanDisk (state g mid.conn)
      clean_of_batch (inl e) clean = (e.done.0 clean (free_as false takes)).clean
      clean_of_batch (inr (inl r)) clean = (r.reads.stays clean).clean
      clean_of_batch (inr (inr want)) clean = clean_as g token mid new want.1 clean

    -- ---- a page whose places are made
    module _ (order : Option DateOrder) (bytes : List ℕ) (entries : List PageEntry) (made : List MadePlace)
        (result : Result PageEnd BatchRefusal) where
      lacking_before : EntersLacking g token n order bytes entries mid made result new
          → EntersLacking g token n order bytes entries old made result new
      lacking_before (inl bad) = inl (record {
        why = bad.why;
        is = bad.is;
        none = bad.none;
        reads = reads_then g old mid new kept reads bad.reads;
        lost = bad.lost;
        right = read_before (state g new.conn) _ bad.right;
      })
      lacking_before (inr did) = inr (record {
        between = did.between;
        paths = did.paths;
        reads = reads_then g old mid did.between kept reads did.reads;
        kept = did.kept;
        right = read_before (state g did.between.conn) _ did.right;
        entered = did.entered;
      })

      clean_of_lacking : EntersLacking g token n order bytes entries mid made result new
          → HasCleanDisk (state g new.conn) → HasCleanDisk (state g mid.conn)
      clean_of_lacking (inl bad) clean = (bad.reads.stays clean).clean
      clean_of_lacking (inr did) clean =
          (did.reads.stays (clean_of_tried g token n order bytes did.paths did.between made result new did.entered
          clean)).clean

-- ---- by what the looks have come to
pub by_number : {S : Type 0} (g : Ghosts S) (old new : Archive S g) (word : NumberWord) (n : ℕ) → word ≡ Number n
    → (P : ℕ → Type 0) (Refused : RefusalKind → Type 0) → P n → BySource g old new word P Refused
by_number g old new word n is P Refused p =
    subst (λ (w : NumberWord). BySource g old new w P Refused) (sym is) p

module _ {S : Type 0} (g : Ghosts S) (old mid : Archive S g) (was_kept : old.is_lost ≡ false)
    (reads : OnlyReads g old mid) (word : NumberWord) (of : List ℕ) (is : word ≡ Reference of)
    (r : Result ℕ RefusalKind)
    (looked : OnRead (state g old.conn) (state g mid.conn) (λ c. IsSourced r (number_in c word)))
    (lost : mid.is_lost ≡ has_broken r) where
  looked_as : (q : Result ℕ RefusalKind) → r ≡ q
      → OnRead (state g old.conn) (state g mid.conn) (λ c. IsSourced q (kept_number c of))
  looked_as q same =
      subst (λ (p : Result ℕ RefusalKind). OnRead (state g old.conn) (state g mid.conn)
      (λ c. IsSourced p (kept_number c of))) same
      (subst (λ (w : NumberWord). OnRead (state g old.conn) (state g mid.conn) (λ c. IsSourced r (number_in c w))) is
      looked)

  lost_as : (q : Result ℕ RefusalKind) → r ≡ q → mid.is_lost ≡ has_broken q
  lost_as q same = lost ∙ ap (λ (p : Result ℕ RefusalKind). has_broken p) same

  had_number : (n : ℕ) → r ≡ Ok n → (new : Archive S g)
      → (HasCleanDisk (state g new.conn) → HasCleanDisk (state g mid.conn)) → HadNumber g old new of n
  had_number n same new back clean =
      let at = looked_as (Ok n) same (back clean) in (at.0, λ rows c was seen. (at.1 rows c was seen).0)

  with_number : (n : ℕ) → r ≡ Ok n → (new : Archive S g) (P : ℕ → Type 0) (Refused : RefusalKind → Type 0)
      → (HasCleanDisk (state g new.conn) → HasCleanDisk (state g mid.conn)) → P n
      → BySource g old new word P Refused
  with_number n same new P Refused back p = subst (λ (w : NumberWord). BySource g old new w P Refused) (sym is)
      (inl (n, had_number n same new back, p))

  -- there is none
  pub without_number : (kind : RefusalKind) → r ≡ Err kind → (P : ℕ → Type 0) (Refused : RefusalKind → Type 0)
      → Refused kind → BySource g old mid word P Refused
  without_number kind same P Refused refused =
      subst (λ (w : NumberWord). BySource g old mid w P Refused) (sym is)
      (inr (
        kind,
        record {
          reads = reads;
          lost = lost_as (Err kind) same;
          right = looked_as (Err kind) same;
        },
        refused,
      ))

  module _ (n : ℕ) (same : r ≡ Ok n) (token : List ℕ) (new : Archive S g) where
    kept : mid.is_lost ≡ false
    kept = lost_as (Ok n) same

    pub entries_sourced : (entries : List PageEntry) (result : Result Answer BatchRefusal)
        (Refused : RefusalKind → Type 0) → EntersOf g token n entries mid result new
        → BySource g old new word (λ m. EntersOf g token m entries old result new) Refused
    entries_sourced entries result Refused did =
        with_number n same new (λ m. EntersOf g token m entries old result new) Refused
        (clean_of_entries g token n entries mid result new did (is_shut mid) refl)
        (entries_before g old mid was_kept reads kept token n new entries result did)

    pub batch_sourced : (input : Option (List ℕ)) (batch : List BatchRow) → ReadsRows input batch
        → is_shut old ≡ false → (outcome : Outcome) (Refused : RefusalKind → Type 0)
        → EntersBatchOf g token n input mid outcome new
        → BySource g old new word (λ m. EntersBatchOf g token m input old outcome new) Refused
    batch_sourced input batch all takes outcome Refused did =
        with_number n same new (λ m. EntersBatchOf g token m input old outcome new) Refused
        (clean_of_batch g old mid was_kept reads kept token n new input batch all takes outcome did)
        (batch_before g old mid was_kept reads kept token n new input batch all takes outcome did)

    pub lacking_sourced : (order : Option DateOrder) (bytes : List ℕ) (entries : List PageEntry)
        (made : List MadePlace) (result : Result PageEnd BatchRefusal) (Refused : RefusalKind → Type 0)
        → EntersLacking g token n order bytes entries mid made result new
        → BySource g old new word (λ m. EntersLacking g token m order bytes entries old made result new) Refused
    lacking_sourced order bytes entries made result Refused did =
        with_number n same new (λ m. EntersLacking g token m order bytes entries old made result new) Refused
        (clean_of_lacking g old mid was_kept reads kept token n new order bytes entries made result did)
        (lacking_before g old mid was_kept reads kept token n new order bytes entries made result did)
