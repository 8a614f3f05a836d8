-- An import that is open, row by row.
use Rattle.std.proofs.Common.{
  ◌≡◌,
  ℕ,
  zero,
  suc,
  true,
  false,
  not,
  List,
  [],
  ◌∷◌,
  ◌++◌,
  cond,
  filter,
  map,
  refl,
  sym,
  ap,
  ◌∙◌,
}
use Rattle.std.specs.Prelude.{◌==◌, ◌&&◌, Some, take}
use Rattle.std.specs.List.{flat_map}
use Rattle.stored_lines.specs.Line.{Label}
use Rattle.gedcom_date.specs.declared.value.Span.{Span}
use Rattle.record_shapes.specs.Lists.{EachOf}
use Rattle.archive_state.specs.declared.changes.Numbered.{Numbered}
use Rattle.store_tables.specs.Rows.{
  Rows,
  BatchRow,
  RecordRow,
  LineRow,
  LinkRow,
  PackRow,
  SpanRow,
  put_by,
  with_batch,
  with_link,
  with_pack,
  with_record_row,
  with_sought,
  with_span,
}
use Rattle.store_rows.specs.Meaning.{has_record, is_closed}
use Rattle.store_rows.specs.Sought.{Sought, sought_at}
use Rattle.store_rows.specs.Spans.{AreDrawn, Drawn}
use Rattle.store_rows.proofs.SoughtRead.{sought_put}
use Rattle.staged_rows.specs.Removing.{AreAside, IsSeenAs}
use Rattle.staged_rows.specs.Staging.{
  StagedRow,
  a_record,
  a_pack,
  a_link,
  a_sought,
  a_span,
  numbers_of,
  rows_of_import,
  with_staged_row,
  with_staged,
  with_open_import,
}
use Rattle.staged_rows.proofs.Alike.{differ, seen_alike, seen_linked, seen_packed, seen_sought, seen_then}
use Rattle.staged_rows.proofs.Links as links
use Rattle.staged_rows.proofs.Lists.{any_put, none_put, filter_put}
use Rattle.staged_rows.proofs.Numbers.{each_number, of_all_rows}
use Rattle.staged_rows.proofs.Spans.{put_elsewhere}
use Rattle.list_laws.proofs.Numbers.{is_not, it, not_it}
use Rattle.list_laws.proofs.Booleans.{and_false}
use Rattle.list_laws.proofs.Lists.{any_alike}

-- ---- one row
still_closed : (batch : ℕ) (rows : Rows) → is_closed batch rows.batches ≡ false → (m : ℕ)
    → is_closed m (with_batch batch true rows).batches ≡ is_closed m rows.batches
still_closed batch rows none m =
    let row : BatchRow = record { no = batch; is_open = true } in
    let key = λ (b : BatchRow). b.no in
    elim (batch == m) as (λ b. (batch == m) ≡ b
    → is_closed m (put_by key row rows.batches) ≡ is_closed m rows.batches) [
      | true ↦ λ e.
          let gone : is_closed m rows.batches ≡ false = ap (λ k. is_closed k rows.batches) (sym (it batch m e))
          ∙ none in
          none_put key (λ (b : BatchRow). (b.no == m) && not b.is_open) row rows.batches
          (and_false (batch == m) false refl) gone ∙ sym gone
      | false ↦ λ e. any_put key m (λ (b : BatchRow). not b.is_open) row rows.batches (not_it batch m e)
    ] refl

batch_opened : (batch : ℕ) (rows : Rows) → is_closed batch rows.batches ≡ false
    → IsSeenAs rows (with_batch batch true rows)
batch_opened batch rows none =
    let bs = (with_batch batch true rows).batches in
    seen_alike bs rows.records rows.lines rows.spans rows (still_closed batch rows none 0)
    (λ m. any_alike (λ (r : RecordRow). (r.no == m) && is_closed r.batch bs)
    (λ (r : RecordRow). (r.no == m) && is_closed r.batch rows.batches)
    (λ r. ap (λ b. (r.no == m) && b) (still_closed batch rows none r.batch)) rows.records) (λ m has. refl)
    (λ m has. refl)

record_staged : (n : ℕ) (kind : List ℕ) (batch : ℕ) (rows : Rows) → is_closed batch rows.batches ≡ false
    → has_record n rows ≡ false → IsSeenAs rows (with_record_row n kind batch rows)
record_staged n kind batch rows unclosed none =
    let row : RecordRow = record { no = n; kind = kind; batch = batch } in
    let key = λ (r : RecordRow). r.no in
    seen_alike rows.batches (put_by key row rows.records) rows.lines rows.spans rows refl
    (λ m. elim (n == m) as (λ b. (n == m) ≡ b → has_record m (with_record_row n kind batch rows) ≡ has_record m rows) [
      | true ↦ λ e.
          let gone : has_record m rows ≡ false = ap (λ k. has_record k rows) (sym (it n m e)) ∙ none in
          none_put key (λ (r : RecordRow). (r.no == m) && is_closed r.batch rows.batches) row rows.records
          (and_false (n == m) (is_closed batch rows.batches) unclosed) gone ∙ sym gone
      | false ↦ λ e. any_put key m (λ (r : RecordRow). is_closed r.batch rows.batches) row rows.records (not_it n m e)
    ] refl) (λ m has. refl) (λ m has. refl)

pack_staged : (n : ℕ) (ls : List (ℕ × Label)) (rows : Rows) → has_record n rows ≡ false
    → IsSeenAs rows (with_pack n ls rows)
pack_staged n ls rows none =
    seen_packed (with_pack n ls rows).packs rows
    (λ m has. ap (λ ps. map (λ (l : LineRow). l.line) (filter (λ (l : LineRow). l.no == m) rows.lines)
    ++ flat_map (λ (p : PackRow). p.lines) ps)
    (filter_put (λ (p : PackRow). p.no) (λ (p : PackRow). p.no == m) (record { no = n; lines = ls })
    (λ y same. ap (λ k. k == m) same ∙ is_not n m (differ n m rows none has)) rows.packs))

span_staged : (n : ℕ) (span : Span) (rows : Rows) → has_record n rows ≡ false
    → IsSeenAs rows (with_span n span.lo span.hi rows)
span_staged n span rows none =
    let row : SpanRow = record { no = n; lo = span.lo; hi = span.hi } in
    seen_alike rows.batches rows.records rows.lines (with_span n span.lo span.hi rows).spans rows refl (λ m. refl)
    (λ m has. refl) (λ m has. put_elsewhere m row (differ n m rows none has) rows.spans)

link_staged : (l : LinkRow) (rows : Rows) → has_record l.no rows ≡ false
    → IsSeenAs rows (with_link l.target l.no rows)
link_staged l rows none =
    seen_linked (with_link l.target l.no rows).links rows
    (λ m target has. links.put_elsewhere target m (record { target = l.target; no = l.no })
    (differ l.no m rows none has) rows.links)

sought_staged : (n : ℕ) (s : Sought) (rows : Rows) → has_record n rows ≡ false
    → IsSeenAs rows (with_sought n s.0 s.1 rows)
sought_staged n s rows none =
    seen_sought (with_sought n s.0 s.1 rows).soughts rows
    (λ m has. sought_put m n s rows
    ∙ ap (λ b. cond b (Some s) (sought_at m rows.soughts)) (is_not n m (differ n m rows none has)))

-- a row of the batch, of a number that has no record in these rows
abbrev IsAsideOf : ℕ → Rows → StagedRow → Type 0
IsAsideOf batch rows (a_record r) = (r.batch ≡ batch) × (has_record r.no rows ≡ false)
IsAsideOf batch rows (a_pack n ls) = has_record n rows ≡ false
IsAsideOf batch rows (a_link l) = has_record l.no rows ≡ false
IsAsideOf batch rows (a_sought n s) = has_record n rows ≡ false
IsAsideOf batch rows (a_span n span) = has_record n rows ≡ false

row_staged : (batch : ℕ) (r : StagedRow) (before rows : Rows) → is_closed batch rows.batches ≡ false
    → IsAsideOf batch before r → IsSeenAs before rows → IsSeenAs rows (with_staged_row r rows)
row_staged batch (a_record r) before rows unclosed aside seen = record_staged r.no r.kind r.batch rows
    (ap (λ b. is_closed b rows.batches) aside.0 ∙ unclosed) (seen.recorded r.no ∙ aside.1)
row_staged batch (a_pack n ls) before rows unclosed aside seen = pack_staged n ls rows (seen.recorded n ∙ aside)
row_staged batch (a_link l) before rows unclosed aside seen = link_staged l rows (seen.recorded l.no ∙ aside)
row_staged batch (a_sought n s) before rows unclosed aside seen = sought_staged n s rows (seen.recorded n ∙ aside)
row_staged batch (a_span n span) before rows unclosed aside seen = span_staged n span rows (seen.recorded n ∙ aside)

pub batches_stay : (r : StagedRow) (rows : Rows) → (with_staged_row r rows).batches ≡ rows.batches
batches_stay (a_record r) rows = refl
batches_stay (a_pack n ls) rows = refl
batches_stay (a_link l) rows = refl
batches_stay (a_sought n s) rows = refl
batches_stay (a_span n span) rows = refl

all_staged : (batch : ℕ) (rs : List StagedRow) (before rows : Rows) → is_closed batch rows.batches ≡ false
    → EachOf (IsAsideOf batch before) rs → IsSeenAs before rows → IsSeenAs before (with_staged rs rows)
all_staged batch [] before rows unclosed aside seen = seen
all_staged batch (r ∷ rs) before rows unclosed aside seen =
    let next = with_staged_row r rows in
    all_staged batch rs before next (ap (is_closed batch) (batches_stay r rows) ∙ unclosed) aside.1
    (seen_then before rows next seen (row_staged batch r before rows unclosed aside.0 seen))

-- ---- the rows of an import
pub each_taken : {A : Type 0} (P : A → Type 0) (k : ℕ) (xs : List A) → EachOf P xs → EachOf P (take k xs)
each_taken P zero xs all = tt
each_taken P (suc k) [] all = tt
each_taken P (suc k) (x ∷ xs) all = (all.0, each_taken P k xs all.1)

pub open_import : (batch count : ℕ) (ps : List Numbered) (drawn : Drawn) (rows : Rows)
    → is_closed batch rows.batches ≡ false → AreAside (numbers_of ps) rows → AreDrawn ps drawn
    → IsSeenAs rows (with_open_import batch ps drawn count rows)
open_import batch count ps drawn rows none aside are =
    let has_none = λ (n : ℕ). has_record n rows ≡ false in
    all_staged batch (take count (rows_of_import batch ps drawn)) rows (with_batch batch true rows)
    (still_closed batch rows none batch ∙ none)
    (each_taken (IsAsideOf batch rows) count (rows_of_import batch ps drawn)
    (of_all_rows has_none (IsAsideOf batch rows) batch (λ p is. (refl, is)) (λ n ls is. is) (λ l is. is)
    (λ n s is. is)
    (λ n span is. is) ps drawn are (each_number has_none ps aside)))
    (batch_opened batch rows none)
