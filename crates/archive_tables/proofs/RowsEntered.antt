-- A batch of rows that was entered, of the numbers that were found by looks that left the archive as it was.
use Rattle.std.proofs.Common.{
  ◌≡◌,
  ◌⊎◌,
  ◌∙◌,
  ℕ,
  Bool,
  List,
  [],
  ◌∷◌,
  true,
  false,
  Ok,
  Err,
  ap,
  inl,
  inr,
  map,
  refl,
  subst,
  sym,
}
use Rattle.std.specs.Prelude.{IfErr, IfOk, Option, None, Some, Result, is_some}
use Rattle.sqlite.specs.Held.{state}
use Rattle.sqlite.specs.State.{HasCleanDisk}
use Rattle.sqlite_trees.specs.declared.store.Store.{Ghosts}
use Rattle.archive_state.specs.Content.{Content}
use Rattle.record_text.specs.declared.refusal.Refusal.{Refusal}
use Rattle.record_text.specs.declared.refusal.RefusalKind.{RefusalKind}
use Rattle.record_text.specs.declared.refusal.RefusalKind.TheVariants.{OutOfMemory}
use Rattle.commands.specs.declared.entry_row.EntryRow.{EntryRow}
use Rattle.row_references.specs.Entries.{known_by, place_number, place_token}
use Rattle.row_references.specs.References.{kept_number}
use Rattle.request_csv.specs.Batches.{AreRead, IsRead, ReadsRows, RefusesPlaced, number_for, placeless}
use Rattle.request_csv.specs.Input.{Row}
use Rattle.request_csv.specs.declared.batch_rows.BatchRow.{BatchRow}
use Rattle.request_csv.specs.declared.batch_rows.BatchRow.TheVariants.{Entry, Referring}
use Rattle.store.specs.Histories.{Outcome, has_broken, is_storage}
use Rattle.staging.specs.Opened.{Import}
use Rattle.store.specs.Shut.{is_shut}
use Rattle.store.specs.Standing.{shuts}
use Rattle.store.specs.Viewing.{OnReadable}
use Rattle.store.specs.declared.archive.Archive.{Archive}
use Rattle.store_tables.specs.Looking.{IsFailure}
use Rattle.archive_input.specs.Applying.{Steps}
use Rattle.archive_output.specs.Reading.{OnlyReads}
use Rattle.archive_tables.specs.Ends.{OnRead}
use Rattle.row_references.specs.declared.words.NumberWord.{NumberWord}
use Rattle.archive_tables.specs.RowBatches.{Enters, EntersOf, IsDone, IsLeft, batch_request, numbers_on}
use Rattle.archive_tables.proofs.Entered.{performs_all, same_shut, true_is_not}

-- ---- the numbers of rows
unknown : (known : List ℕ → Option ℕ) (o : Option (List ℕ)) → is_some o ≡ false → None ≡ known_by known o
unknown known None none = refl
unknown known (Some token) none = let wrong : true ≡ false = none in absurd cc

same_number : (known : List ℕ → Option ℕ) (row : Row) (read : BatchRow) → IsRead row read
    → number_for known read ≡ place_number known row
same_number known row (Entry entry) is = unknown known (place_token row) is.0
same_number known row (Referring own entry) is = ap (place_number known) is.1

same_numbers : (known : List ℕ → Option ℕ) (rows : List Row) (read : List BatchRow) → AreRead rows read
    → map (number_for known) read ≡ map (place_number known) rows
same_numbers known [] [] h = refl
same_numbers known [] (x ∷ read) h = absurd h
same_numbers known (row ∷ rows) [] h = absurd h
same_numbers known (row ∷ rows) (x ∷ read) h =
    ap (λ (n : Option ℕ). n ∷ map (number_for known) read) (same_number known row x h.0)
    ∙ ap (λ (ns : List (Option ℕ)). place_number known row ∷ ns) (same_numbers known rows read h.1)

-- ---- requests after the looks
module _ {S : Type 0} (g : Ghosts S) (token : List ℕ) (source : ℕ) (batch : List BatchRow)
    (old looked new : Archive S g) (takes : is_shut old ≡ false) (was_kept : old.is_lost ≡ false)
    (reads : OnlyReads g old looked) (kept : looked.is_lost ≡ false) (numbers : List (Option ℕ))
    (looks : OnRead (state g old.conn) (state g looked.conn)
    (λ c. numbers ≡ map (number_for (kept_number c)) batch)) (outcome : Outcome)
    (input : Option (List ℕ)) (all : ReadsRows input batch) where
  abbrev pub rows : List Row
  rows = all.0

  free : is_shut looked ≡ false
  free = same_shut g old looked new was_kept reads kept ∙ takes

  same_here : (clean : HasCleanDisk (state g looked.conn)) → OnReadable (state g old.conn)
      (λ stored c. numbers ≡ numbers_on c rows)
  same_here clean stored c settled seen =
      let at = (looks clean).1 stored c settled seen in at.0 ∙ same_numbers (kept_number c) rows batch all.2

  entered : IsDone g token source numbers rows looked outcome new
      → EntersOf g token source input old outcome new
  entered d = inl (record {
    numbers = numbers;
    rows = rows;
    entries = d.0;
    read = λ _. (all.1, d.1);
    right = λ _ clean. same_here (d.2.0 clean free).clean;
    done = (
      performs_all g old looked new was_kept reads kept _ d.2.0,
      λ _. d.2.1 free,
      λ shut. absurd (true_is_not (is_shut old) takes shut),
    );
  })

  by_rows : (why : Refusal) → (why ≡ placeless OutOfMemory) ⊎ RefusesPlaced numbers rows why → (c : Content)
      → numbers ≡ numbers_on c rows → IsFailure why.kind ⊎ RefusesPlaced (numbers_on c rows) rows why
  by_rows why (inl want) c same = inl (inl (ap (λ (r : Refusal). r.kind) want))
  by_rows why (inr lacks) c same =
      inr (subst (λ (ns : List (Option ℕ)). RefusesPlaced ns rows why) same lacks)

  left : IsLeft g token source numbers rows looked outcome new → EntersOf g token source input old outcome new
  left l = inr (inl (record {
    why = l.0;
    is = l.1;
    reads = subst (OnlyReads g old) (sym l.3) reads;
    lost = λ was. absurd (true_is_not looked.is_lost kept
        (subst (λ (a : Archive S g). a.is_lost ≡ true) l.3 was));
    rows = rows;
    read = all.1;
    right = λ clean stored c settled seen.
        by_rows l.0 l.2 c (same_here (subst (λ (a : Archive S g). HasCleanDisk (state g a.conn)) l.3 clean) stored c
        settled seen);
  }))

  pub rows_entered : IsDone g token source numbers rows looked outcome new
      ⊎ IsLeft g token source numbers rows looked outcome new → EntersOf g token source input old outcome new
  rows_entered (inl d) = entered d
  rows_entered (inr l) = left l

-- looks that were refused
pub refused_by_looks : {S : Type 0} (g : Ghosts S) (token : List ℕ) (source : ℕ) (old new : Archive S g)
    → OnlyReads g old new → (kind : RefusalKind)
    → OnRead (state g old.conn) (state g new.conn) (λ c. IsFailure kind) → new.is_lost ≡ is_storage kind
    → (e : Refusal) → e ≡ placeless kind → (input : Option (List ℕ)) (batch : List BatchRow) → ReadsRows input batch
    → EntersOf g token source input old (Err e) new
refused_by_looks g token source old new reads kind looks lost e is input batch all =
    let same : e.kind ≡ kind = ap (λ (r : Refusal). r.kind) is in
    inr (inl (record {
      why = e;
      is = refl;
      reads = reads;
      lost = λ was. ap is_storage same ∙ sym lost ∙ was;
      rows = all.0;
      read = all.1;
      right = λ clean stored c settled seen.
          inl (subst IsFailure (sym same) ((looks clean).1 stored c settled seen).0);
    }))

-- an archive that takes no requests refuses the batches of all sources alike
pub shut_alike : {S : Type 0} (g : Ghosts S) (token : List ℕ) (one other : ℕ) (old new : Archive S g)
    → is_shut old ≡ true → (entries : List EntryRow) (outcome : Outcome)
    → Steps g (Ok (batch_request token one entries, outcome)) old new
    → Steps g (Ok (batch_request token other entries, outcome)) old new
shut_alike g token one other old new shut entries outcome done = (
  λ clean takes. absurd (true_is_not (is_shut old) takes shut),
  done.1,
  λ was. let refused = done.2 was in ((refused.0.0, tt), refused.1),
)

pub rows_refused : {S : Type 0} (g : Ghosts S) (token : List ℕ) (source : ℕ) (old new : Archive S g)
    → is_shut old ≡ true → (entries : List EntryRow) (outcome : Outcome)
    → Steps g (Ok (batch_request token source entries, outcome)) old new → (input : Option (List ℕ))
    → EntersOf g token source input old outcome new
rows_refused g token source old new shut entries outcome done input = inl (record {
  numbers = [];
  rows = [];
  entries = entries;
  read = λ takes. absurd (true_is_not (is_shut old) takes shut);
  right = λ takes _. absurd (true_is_not (is_shut old) takes shut);
  done = done;
})

-- ---- the whole, by its outcome
module _ {S : Type 0} (g : Ghosts S) (token : List ℕ) (source : NumberWord) (input : Option (List ℕ))
    (old new : Archive S g) where
  pub whole_ok : (o : Outcome) → Enters g token source input old o new
      → IfOk o (λ answer. Enters g token source input old (Ok answer) new)
  whole_ok (Ok answer) did = did
  whole_ok (Err e) did = tt

  pub whole_err : (P : Refusal → Type 0) (o : Outcome) → Enters g token source input old o new
      → IfErr o (λ e. Enters g token source input old (Err e) new ⊎ P e)
  whole_err P (Ok answer) did = tt
  whole_err P (Err e) did = inl did

-- ---- an archive that takes requests
kept_by : (lost : Bool) (i : Option Import) → shuts lost i ≡ false → lost ≡ false
kept_by true None taken = let wrong : true ≡ false = taken in absurd cc
kept_by true (Some i) taken = let wrong : true ≡ false = taken in absurd cc
kept_by false i taken = refl

pub kept_where_free : {S : Type 0} {g : Ghosts S} (a : Archive S g) → is_shut a ≡ false → a.is_lost ≡ false
kept_where_free a free = kept_by a.is_lost a.import free

-- whether looks lost an archive, by what they have come to
pub broken_as : {A : Type 0} (lost : Bool) (r q : Result A RefusalKind) → lost ≡ has_broken r → r ≡ q
    → lost ≡ has_broken q
broken_as lost r q said is = said ∙ ap has_broken is
