-- What is kept while rows are read one after the other, and what follows of it where a call ends.
use Rattle.std.proofs.Common.{
  ◌≡◌,
  ◌∙◌,
  ◌⊎◌,
  ◌+◌,
  ◌++◌,
  ◌∷◌,
  ℕ,
  List,
  [],
  Option,
  Some,
  Result,
  Err,
  inl,
  inr,
  refl,
  ap,
  sym,
  subst,
  length,
  length-append,
}
use Rattle.csv.specs.declared.parser.State.{State}
use Rattle.csv.specs.declared.parser.State.TheVariants as st
use Rattle.record_text.specs.declared.refusal.Refusal.{Refusal}
use Rattle.record_text.specs.declared.refusal.RefusalKind.{RefusalKind}
use Rattle.record_text.specs.declared.refusal.RefusalKind.TheVariants.{OutOfMemory, ReadFailed}
use Rattle.commands.proofs.Again.{one_entry_outcome}
use Rattle.commands.specs.declared.entry_row.EntryRow.{EntryRow}
use Rattle.request_csv.specs.Batches.{AreRead, IsRead, IsRefused, ReadsRow, ReadsRows, in_form, placeless}
use Rattle.request_csv.specs.declared.batch_rows.BatchRow.{BatchRow}
use Rattle.request_csv.specs.Input.{AreRows, Row}
use Rattle.request_csv.proofs.Taking.{Took, took_first, took_none}

read_more : (rows : List Row) (read : List BatchRow) (row : Row) (next : BatchRow) → AreRead rows read
    → IsRead row next → AreRead (rows ++ row ∷ []) (read ++ next ∷ [])
read_more [] [] row next h is = (is, tt)
read_more [] (x ∷ xs) row next h is = absurd h
read_more (r ∷ rs) [] row next h is = absurd h
read_more (r ∷ rs) (x ∷ xs) row next h is = (h.0, read_more rs xs row next h.1 is)

-- ---- rows read so far, as many as a number
pub record OnTheWay (known left : Option (List ℕ)) (at : State) (read : List BatchRow) (number : ℕ) : Type 0 where
  pub rows : List Row
  pub took : Took known rows at left
  pub each : AreRead rows read
  pub count : length rows ≡ number

pub at_start : (known : Option (List ℕ)) (read : List BatchRow) → read ≡ []
    → OnTheWay known known st.StartRecord read 0
at_start known read none =
    subst (λ (rs : List BatchRow). OnTheWay known known st.StartRecord rs 0) (sym none)
    (record { rows = []; took = took_none known; each = tt; count = refl })

module _ (known left : Option (List ℕ)) (at : State) (read : List BatchRow) (number : ℕ)
    (w : OnTheWay known left at read number) where
  -- a row more, whose form is that of an entry
  pub one_more : (row : Row) (more : List BatchRow) (rest : Option (List ℕ)) (to : State)
      → Took known (w.rows ++ row ∷ []) to rest
      → (next : BatchRow) × IsRead row next × (more ≡ read ++ next ∷ [])
      → OnTheWay known rest to more (number + 1)
  one_more row more rest to took is = record {
    rows = w.rows ++ row ∷ [];
    took = took;
    each = subst (AreRead (w.rows ++ row ∷ [])) (sym is.2) (read_more w.rows read row is.0 w.each is.1);
    count = length-append w.rows (row ∷ []) ∙ ap (λ (n : ℕ). n + 1) w.count;
  }

  pub all_read : AreRows known w.rows → ReadsRows known read
  all_read all = (w.rows, all, w.each)

  -- a row more, whose form is that of none
  pub row_refused : (row : Row) (e : Refusal) (rest : Option (List ℕ)) (to : State)
      → Took known (w.rows ++ row ∷ []) to rest
      → (e ≡ placeless OutOfMemory) ⊎ (ReadsRow (in_form row) (Err e.kind) × (e.at ≡ Some (number + 1)))
      → IsRefused known e
  row_refused row e rest to took (inl want) = inl want
  row_refused row e rest to took (inr is) = inr (inr (record {
    before = w.rows;
    read = read;
    row = row;
    first = took_first known rest (w.rows ++ row ∷ []) to took;
    each = w.each;
    refused = is.0;
    place = is.1 ∙ ap (λ (n : ℕ). Some (n + 1)) (sym w.count);
  }))

-- ---- where no row is to blame
pub unread : (known : Option (List ℕ)) (e : Refusal) (kind : RefusalKind) → e ≡ placeless kind
    → (kind ≡ OutOfMemory) ⊎ (kind ≡ ReadFailed) → IsRefused known e
unread known e kind is (inl want) = inl (is ∙ ap placeless want)
unread known e kind is (inr failed) = inr (inl (is ∙ ap placeless failed))

-- a reader that did not count its error
pub told_so : (known : Option (List ℕ)) (why told : Refusal) {Risen : Type 0}
    → ((told ≡ why) × (why.kind ≡ ReadFailed → Risen)) ⊎ ((why.kind ≡ ReadFailed) × (told ≡ placeless OutOfMemory))
    → IsRefused known why → IsRefused known told
told_so known why told (inl h) e = subst (IsRefused known) (sym h.0) e
told_so known why told (inr h) e = inl h.1

pub one_entry : (row : Row) (a b : Result EntryRow RefusalKind) → ReadsRow row a → ReadsRow row b → a ≡ b
one_entry row a b (inl x) (inl y) = one_entry_outcome row a b x.1 y.1
one_entry row a b (inl x) (inr y) = absurd (y.0 x.0)
one_entry row a b (inr x) (inl y) = absurd (x.0 y.0)
one_entry row a b (inr x) (inr y) = x.1 ∙ sym y.1
