-- Nothing of a new import is there, where every row is of a closed batch.
use Rattle.std.proofs.Common.{◌≡◌, ℕ, Bool, true, false, not, List, [], ◌∷◌, refl, sym, ap, ap₂, ◌∙◌}
use Rattle.std.specs.Prelude.{◌==◌, ◌&&◌, ◌||◌, None}
use Rattle.std.specs.FinMap.{get}
use Rattle.std.specs.List.{AllByRecursion, list_any}
use Rattle.record_shapes.specs.Lists.{EachOf}
use Rattle.archive_state.specs.Content.{Content}
use Rattle.archive_state.specs.declared.changes.Numbered.{Numbered}
use Rattle.store_tables.specs.Batches.{AreOwned}
use Rattle.store_tables.specs.Rows.{Rows, BatchRow, RecordRow, LineRow, PackRow, SoughtRow, SpanRow}
use Rattle.store_rows.specs.Meaning.{Means, has_record, is_closed}
use Rattle.staged_rows.specs.Staging.{AreAllClosed, AreClosed, IsFresh, numbers_of}
use Rattle.staged_rows.proofs.Alike.{absent, none_closed}
use Rattle.list_laws.proofs.Numbers.{it}

apart : (b : ℕ) (bs : List BatchRow) (r : RecordRow) → is_closed b bs ≡ false → is_closed r.batch bs ≡ true
    → (r.batch == b) ≡ false
apart b bs r none closed =
    elim (r.batch == b) as (λ t. (r.batch == b) ≡ t → t ≡ false) [
      | true ↦ λ e.
          let here = ap (λ k. is_closed k bs) (it r.batch b e) in
          absurd (let both : true ≡ false = sym closed ∙ here ∙ none in cc)
      | false ↦ λ e. refl
    ] refl

none_of_batch : (b : ℕ) (bs : List BatchRow) (rs : List RecordRow) → is_closed b bs ≡ false
    → AllByRecursion (λ (r : RecordRow). is_closed r.batch bs ≡ true) rs
    → list_any (λ (r : RecordRow). r.batch == b) rs ≡ false
none_of_batch b bs [] none all = refl
none_of_batch b bs (r ∷ rs) none all =
    ap₂ (λ s t. s || t) (apart b bs r none all.0) (none_of_batch b bs rs none all.1)

and_true : (a b : Bool) → b ≡ true → (a && b) ≡ a
and_true true b h = h
and_true false b h = refl

any_closed : (n : ℕ) (bs : List BatchRow) (rs : List RecordRow)
    → AllByRecursion (λ (r : RecordRow). is_closed r.batch bs ≡ true) rs
    → list_any (λ (r : RecordRow). (r.no == n) && is_closed r.batch bs) rs ≡ list_any (λ (r : RecordRow). r.no == n) rs
any_closed n bs [] all = refl
any_closed n bs (r ∷ rs) all =
    ap₂ (λ s t. s || t) (and_true (r.no == n) (is_closed r.batch bs) all.0) (any_closed n bs rs all.1)

-- where each of these is of a number with a row in `record`, as lines and spans are
module _ {X : Type 0} (key : X → ℕ) (rs : List RecordRow) where
  one_apart : (n : ℕ) (x : X) → list_any (λ (r : RecordRow). r.no == n) rs ≡ false
      → list_any (λ (r : RecordRow). r.no == key x) rs ≡ true → (key x == n) ≡ false
  one_apart n x none has =
      elim (key x == n) as (λ t. (key x == n) ≡ t → t ≡ false) [
        | true ↦ λ e.
            let here = ap (λ k. list_any (λ (r : RecordRow). r.no == k) rs) (it (key x) n e) in
            absurd (let both : true ≡ false = sym has ∙ here ∙ none in cc)
        | false ↦ λ e. refl
      ] refl

  none_of_number : (n : ℕ) (xs : List X) → list_any (λ (r : RecordRow). r.no == n) rs ≡ false
      → AllByRecursion (λ x. list_any (λ (r : RecordRow). r.no == key x) rs ≡ true) xs
      → list_any (λ x. key x == n) xs ≡ false
  none_of_number n [] none all = refl
  none_of_number n (x ∷ xs) none all =
      ap₂ (λ s t. s || t) (one_apart n x none all.0) (none_of_number n xs none all.1)

  none_of_puts : (ps : List Numbered) (xs : List X)
      → EachOf (λ (p : Numbered). list_any (λ (r : RecordRow). r.no == p.number) rs ≡ false) ps
      → AllByRecursion (λ x. list_any (λ (r : RecordRow). r.no == key x) rs ≡ true) xs
      → EachOf (λ (p : Numbered). list_any (λ x. key x == p.number) xs ≡ false) ps
  none_of_puts [] xs none all = tt
  none_of_puts (p ∷ ps) xs none all = (none_of_number p.number xs none.0 all, none_of_puts ps xs none.1 all)

no_row : (n : ℕ) (rows : Rows) (c : Content) → AreClosed rows → Means rows c → get c.records n ≡ None
    → list_any (λ (r : RecordRow). r.no == n) rows.records ≡ false
no_row n rows c closed was new =
    sym (any_closed n rows.batches rows.records closed.records) ∙ absent rows c n was new

no_rows : (ps : List Numbered) (rows : Rows) (c : Content) → AreClosed rows → Means rows c
    → EachOf (λ (p : Numbered). get c.records p.number ≡ None) ps
    → EachOf (λ (p : Numbered). list_any (λ (r : RecordRow). r.no == p.number) rows.records ≡ false) ps
no_rows [] rows c closed was new = tt
no_rows (p ∷ ps) rows c closed was new = (
  no_row p.number rows c closed was new.0,
  no_rows ps rows c closed was new.1,
)

pub fresh : (batch : ℕ) (ps : List Numbered) (rows : Rows) (c : Content) → AreClosed rows
    → list_any (λ (b : BatchRow). b.no == batch) rows.batches ≡ false
    → EachOf (λ (p : Numbered). get c.records p.number ≡ None) ps → Means rows c → IsFresh batch ps rows
fresh batch ps rows c closed unused new was = record {
  unused = unused;
  records = none_of_batch batch rows.batches rows.records (none_closed batch rows.batches unused) closed.records;
  numbers = no_rows ps rows c closed was new;
  lines = none_of_puts (λ (l : LineRow). l.no) rows.records ps rows.lines (no_rows ps rows c closed was new)
      closed.lines;
  packs = none_of_puts (λ (p : PackRow). p.no) rows.records ps rows.packs (no_rows ps rows c closed was new)
      closed.packs;
  spans = none_of_puts (λ (s : SpanRow). s.no) rows.records ps rows.spans (no_rows ps rows c closed was new)
      closed.spans;
  soughts = none_of_puts (λ (s : SoughtRow). s.no) rows.records ps rows.soughts (no_rows ps rows c closed was new)
      closed.soughts;
}

-- ---- where every batch is closed
is_there : (n : ℕ) (bs : List BatchRow) → AllByRecursion (λ (b : BatchRow). not b.is_open ≡ true) bs
    → is_closed n bs ≡ list_any (λ (b : BatchRow). b.no == n) bs
is_there n [] all = refl
is_there n (b ∷ bs) all = ap₂ (λ s t. s || t) (and_true (b.no == n) (not b.is_open) all.0) (is_there n bs all.1)

of_closed : (bs : List BatchRow) (rs : List RecordRow) → AllByRecursion (λ (b : BatchRow). not b.is_open ≡ true) bs
    → AllByRecursion (λ (r : RecordRow). list_any (λ (b : BatchRow). b.no == r.batch) bs ≡ true) rs
    → AllByRecursion (λ (r : RecordRow). is_closed r.batch bs ≡ true) rs
of_closed bs [] closed all = tt
of_closed bs (r ∷ rs) closed all = (is_there r.batch bs closed ∙ all.0, of_closed bs rs closed all.1)

pub all_of_closed : (rows : Rows) → AreOwned rows → AreAllClosed rows → AreClosed rows
all_of_closed rows owned closed = record {
  lines = owned.lines;
  packs = owned.packs;
  records = of_closed rows.batches rows.records closed owned.records;
  spans = owned.spans;
  soughts = owned.soughts;
}

-- ---- numbers without a record
pub none_have : (ps : List Numbered) (rows : Rows) (c : Content)
    → EachOf (λ (p : Numbered). get c.records p.number ≡ None) ps → Means rows c
    → EachOf (λ n. has_record n rows ≡ false) (numbers_of ps)
none_have [] rows c new was = tt
none_have (p ∷ ps) rows c new was = (absent rows c p.number was new.0, none_have ps rows c new.1 was)
