-- Entries of rows with numbers, one after the other.
use Rattle.std.proofs.Common.{
  ◌≡◌,
  ◌∙◌,
  ◌+◌,
  ◌++◌,
  ◌∷◌,
  ℕ,
  List,
  [],
  Option,
  Some,
  Ok,
  Err,
  inl,
  inr,
  refl,
  ap,
  sym,
  subst,
  length,
  length-append,
  arith,
  suc,
}
use Rattle.std.proofs.lemmas.List.{append-nil, append_assoc}
use Rattle.record_text.specs.declared.refusal.Refusal.{Refusal}
use Rattle.commands.specs.declared.entry_row.EntryRow.{EntryRow}
use Rattle.request_csv.specs.Batches.{
  AreEntries,
  AreRead,
  IsRead,
  LacksEntry,
  ReadsPlaced,
  Settles,
  SettlesRow,
  number_at,
}
use Rattle.request_csv.specs.Input.{Row}
use Rattle.request_csv.specs.declared.batch_rows.BatchRow.{BatchRow}

-- ---- lists
-- rows that were read as two lists are those of the first and those of the second
record Parts (first second : List BatchRow) (rows : List Row) : Type 0 where
  before : List Row
  after : List Row
  all : rows ≡ before ++ after
  one : AreRead before first
  two : AreRead after second
  count : length before ≡ length first

parts : (first second : List BatchRow) (rows : List Row) → AreRead rows (first ++ second) → Parts first second rows
parts [] second rows h = record { before = []; after = rows; all = refl; one = tt; two = h; count = refl }
parts (x ∷ first) second [] h = absurd h
parts (x ∷ first) second (row ∷ rows) h =
    let p = parts first second rows h.1 in
    record {
      before = row ∷ p.before;
      after = p.after;
      all = ap (λ (rs : List Row). row ∷ rs) p.all;
      one = (h.0, p.one);
      two = p.two;
      count = ap suc p.count;
    }

module _ (numbers : List (Option ℕ)) where
  entries_more : (at : ℕ) (rows : List Row) (entries : List EntryRow) (row : Row) (entry : EntryRow)
      → AreEntries numbers at rows entries → ReadsPlaced (number_at numbers (at + length rows)) row (Ok entry)
      → AreEntries numbers at (rows ++ row ∷ []) (entries ++ entry ∷ [])
  entries_more at [] [] row entry h is =
      let here : at + 0 ≡ at = omega arith in
      (subst (λ (k : ℕ). ReadsPlaced (number_at numbers k) row (Ok entry)) here is, tt)
  entries_more at [] (e ∷ entries) row entry h is = absurd h
  entries_more at (r ∷ rows) [] row entry h is = absurd h
  entries_more at (r ∷ rows) (e ∷ entries) row entry h is =
      let here : at + suc (length rows) ≡ at + 1 + length rows = omega arith in (
        h.0,
        entries_more (at + 1) rows entries row entry h.1
            (subst (λ (k : ℕ). ReadsPlaced (number_at numbers k) row (Ok entry)) here is),
      )

  -- ---- entries of the rows before some
  pub record Placing (all left : List BatchRow) (entries : List EntryRow) (count : ℕ) : Type 0 where
    pub done : List BatchRow
    pub is : all ≡ done ++ left
    pub long : length done ≡ count
    pub each : (rows : List Row) → AreRead rows done → AreEntries numbers 0 rows entries

  of_none : (rows : List Row) → AreRead rows [] → AreEntries numbers 0 rows []
  of_none [] read = tt
  of_none (row ∷ rows) read = absurd read

  pub none_yet : (all : List BatchRow) (entries : List EntryRow) → entries ≡ [] → Placing all all entries 0
  none_yet all entries none = record {
    done = [];
    is = refl;
    long = refl;
    each = λ rows read. subst (AreEntries numbers 0 rows) (sym none) (of_none rows read);
  }

  one_after : (next : BatchRow) (entries : List EntryRow) (entry : EntryRow) (count : ℕ) (rows before after : List Row)
      → rows ≡ before ++ after → AreRead after (next ∷ []) → length before ≡ count
      → AreEntries numbers 0 before entries
      → ((raw : Row) → IsRead raw next → ReadsPlaced (number_at numbers count) raw (Ok entry))
      → AreEntries numbers 0 rows (entries ++ entry ∷ [])
  one_after next entries entry count rows before [] all read long each is = absurd read
  one_after next entries entry count rows before (row ∷ []) all read long each is =
      let here : count ≡ 0 + length before = omega (arith, long) in
      subst (λ (rs : List Row). AreEntries numbers 0 rs (entries ++ entry ∷ [])) (sym all)
      (entries_more 0 before entries row entry each
      (subst (λ (k : ℕ). ReadsPlaced (number_at numbers k) row (Ok entry)) here (is row read.0)))
  one_after next entries entry count rows before (row ∷ other ∷ more) all read long each is = absurd read.1

  module _ (all left : List BatchRow) (entries : List EntryRow) (count : ℕ) where
    -- an entry more
    pub one_placed : (next : BatchRow) → Placing all (next ∷ left) entries count → (entry : EntryRow)
        → ((raw : Row) → IsRead raw next → ReadsPlaced (number_at numbers count) raw (Ok entry))
        → (more : List EntryRow) → more ≡ entries ++ entry ∷ [] → Placing all left more (count + 1)
    one_placed next w entry is more same = record {
      done = w.done ++ next ∷ [];
      is = w.is ∙ sym (append_assoc w.done (next ∷ []) left);
      long = length-append w.done (next ∷ []) ∙ ap (λ (n : ℕ). n + 1) w.long;
      each = λ rows read.
          let p = parts w.done (next ∷ []) rows read in
          subst (AreEntries numbers 0 rows) (sym same)
          (one_after next entries entry count rows p.before p.after p.all p.two (p.count ∙ w.long)
          (w.each p.before p.one) is);
    }

    -- no row is left
    pub all_placed : Placing all left entries count → left ≡ [] → (rows : List Row) → AreRead rows all
        → Settles numbers rows (Ok entries)
    all_placed w none rows read =
        w.each rows (subst (AreRead rows) (w.is ∙ ap (λ (rest : List BatchRow). w.done ++ rest) none
        ∙ append-nil w.done)
        read)

    refused_by : (e : Refusal) (rows before : List Row) (row : Row) (after : List Row) → rows ≡ before ++ row ∷ after
        → length before ≡ count → AreEntries numbers 0 before entries
        → SettlesRow (number_at numbers count) row (count + 1) (Err e) → Settles numbers rows (Err e)
    refused_by e rows before row after all long each (inl want) = inl want
    refused_by e rows before row after all long each (inr is) = inr (record {
      before = before;
      entries = entries;
      row = row;
      after = after;
      all = all;
      each = each;
      refused = subst (λ (k : ℕ). LacksEntry (number_at numbers k) row e.kind) (sym long) is.0;
      place = is.1 ∙ ap (λ (n : ℕ). Some (n + 1)) (sym long);
    })

    refused_at : (next : BatchRow) (e : Refusal) (rows before after : List Row) → rows ≡ before ++ after
        → AreRead after (next ∷ left) → length before ≡ count → AreEntries numbers 0 before entries
        → ((raw : Row) → IsRead raw next → SettlesRow (number_at numbers count) raw (count + 1) (Err e))
        → Settles numbers rows (Err e)
    refused_at next e rows before [] all read long each is = absurd read
    refused_at next e rows before (row ∷ after) all read long each is =
        refused_by e rows before row after all long each (is row read.0)

    -- a row that is no entry
    pub row_lacks : (next : BatchRow) → Placing all (next ∷ left) entries count → (e : Refusal)
        → ((raw : Row) → IsRead raw next → SettlesRow (number_at numbers count) raw (count + 1) (Err e))
        → (rows : List Row) → AreRead rows all → Settles numbers rows (Err e)
    row_lacks next w e is rows read =
        let p = parts w.done (next ∷ left) rows (subst (AreRead rows) w.is read) in
        refused_at next e rows p.before p.after p.all p.two (p.count ∙ w.long) (w.each p.before p.one) is
