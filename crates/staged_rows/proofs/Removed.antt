-- Rows that no record has, removed: it is not seen.
use Rattle.std.proofs.Common.{◌≡◌, ℕ, Bool, true, false, not, List, ◌++◌, cond, filter, map, refl, sym, ap, ◌∙◌}
use Rattle.std.specs.Prelude.{◌==◌, ◌&&◌, None}
use Rattle.std.specs.List.{flat_map}
use Rattle.stored_lines.specs.Line.{Label}
use Rattle.store_tables.specs.Rows.{
  Rows,
  BatchRow,
  RecordRow,
  LineRow,
  PackRow,
  without_batch_row,
  without_link,
  without_record_row,
  without_sought,
  without_span,
}
use Rattle.store_rows.specs.Sought.{sought_at}
use Rattle.store_rows.proofs.SoughtRead.{sought_removed}
use Rattle.store_rows.specs.Meaning.{has_record, is_closed}
use Rattle.staged_rows.specs.Removing.{IsSeenAs}
use Rattle.staged_rows.proofs.Alike.{differ, seen_alike, seen_linked, seen_packed, seen_sought}
use Rattle.staged_rows.proofs.Links.{kept_elsewhere}
use Rattle.staged_rows.proofs.Lists.{any_kept, none_kept, filter_kept}
use Rattle.staged_rows.proofs.Spans.{span_kept}
use Rattle.list_laws.proofs.Numbers.{is_not, it}
use Rattle.list_laws.proofs.Lists.{any_alike}

unlike : (n : ℕ) (stays : Bool) (m : ℕ) (rows : Rows) → (stays ≡ false → has_record n rows ≡ false)
    → has_record m rows ≡ true → stays ≡ false → (n == m) ≡ false
unlike n stays m rows h has gone =
    elim (n == m) as (λ b. (n == m) ≡ b → b ≡ false) [
      | true ↦ λ e.
          let here = ap (λ k. has_record k rows) (sym (it n m e)) in
          absurd (let both : true ≡ false = sym has ∙ here ∙ h gone in cc)
      | false ↦ λ e. refl
    ] refl

-- the stored lines of rows with one line and of rows with all lines
abbrev all_of : List LineRow → List PackRow → List (ℕ × Label)
all_of ls ps = map (λ (l : LineRow). l.line) ls ++ flat_map (λ (p : PackRow). p.lines) ps

pub lines_gone : (stays : LineRow → Bool) (rows : Rows)
    → ((l : LineRow) → stays l ≡ false → has_record l.no rows ≡ false)
    → IsSeenAs rows (record rows { lines = filter stays rows.lines })
lines_gone stays rows h =
    seen_alike rows.batches rows.records (filter stays rows.lines) rows.spans rows refl (λ n. refl)
    (λ m has. ap (λ ls. all_of ls (filter (λ (p : PackRow). p.no == m) rows.packs))
    (filter_kept (λ (l : LineRow). l.no == m) stays (λ l. unlike l.no (stays l) m rows (h l) has) rows.lines))
    (λ m has. refl)

pub packs_gone : (stays : PackRow → Bool) (rows : Rows)
    → ((p : PackRow) → stays p ≡ false → has_record p.no rows ≡ false)
    → IsSeenAs rows (record rows { packs = filter stays rows.packs })
packs_gone stays rows h =
    seen_packed (filter stays rows.packs) rows
    (λ m has. ap (all_of (filter (λ (l : LineRow). l.no == m) rows.lines))
    (filter_kept (λ (p : PackRow). p.no == m) stays (λ p. unlike p.no (stays p) m rows (h p) has) rows.packs))

pub span_gone : (n : ℕ) (rows : Rows) → has_record n rows ≡ false → IsSeenAs rows (without_span n rows)
span_gone n rows none =
    seen_alike rows.batches rows.records rows.lines (without_span n rows).spans rows refl (λ m. refl) (λ m has. refl)
    (λ m has. span_kept m n (differ n m rows none has) rows.spans)

pub sought_gone : (n : ℕ) (rows : Rows) → has_record n rows ≡ false → IsSeenAs rows (without_sought n rows)
sought_gone n rows none =
    seen_sought (without_sought n rows).soughts rows
    (λ m has. sought_removed m n rows
    ∙ ap (λ b. cond b None (sought_at m rows.soughts)) (is_not n m (differ n m rows none has)))

pub link_gone : (target n : ℕ) (rows : Rows) → has_record n rows ≡ false → IsSeenAs rows (without_link target n rows)
link_gone target n rows none =
    seen_linked (without_link target n rows).links rows
    (λ m t has. kept_elsewhere t m target n (differ n m rows none has) rows.links)

-- a row that is left out is of that number
pub left_out : (k n : ℕ) → not (k == n) ≡ false → k ≡ n
left_out k n e = it k n (flip (k == n) e)
  where
    flip : (b : Bool) → not b ≡ false → b ≡ true
    flip true h = refl
    flip false h = absurd cc

pub record_gone : (n : ℕ) (rows : Rows) → has_record n rows ≡ false → IsSeenAs rows (without_record_row n rows)
record_gone n rows none =
    let kept = λ (r : RecordRow). not (r.no == n) in
    let q = λ (m : ℕ) (r : RecordRow). (r.no == m) && is_closed r.batch rows.batches in
    seen_alike rows.batches (filter kept rows.records) rows.lines rows.spans rows refl
    (λ m. elim (n == m) as (λ b. (n == m) ≡ b → has_record m (without_record_row n rows) ≡ has_record m rows) [
      | true ↦ λ e.
          let gone : has_record m rows ≡ false = ap (λ k. has_record k rows) (sym (it n m e)) ∙ none in
          none_kept (q m) kept rows.records gone ∙ sym gone
      | false ↦ λ e. any_kept (q m) kept
          (λ r out. ap (λ k. (k == m) && is_closed r.batch rows.batches) (left_out r.no n out)
          ∙ ap (λ b. b && is_closed r.batch rows.batches) e) rows.records
    ] refl) (λ m has. refl) (λ m has. refl)

pub batch_gone : (n : ℕ) (rows : Rows) → is_closed n rows.batches ≡ false → IsSeenAs rows (without_batch_row n rows)
batch_gone n rows none =
    let kept = λ (b : BatchRow). not (b.no == n) in
    let bs = filter kept rows.batches in
    let q = λ (m : ℕ) (b : BatchRow). (b.no == m) && not b.is_open in
    let closed : (m : ℕ) → is_closed m bs ≡ is_closed m rows.batches =
    λ m. elim (n == m) as (λ b. (n == m) ≡ b → is_closed m bs ≡ is_closed m rows.batches) [
      | true ↦ λ e.
          let gone : is_closed m rows.batches ≡ false = ap (λ k. is_closed k rows.batches) (sym (it n m e)) ∙ none in
          none_kept (q m) kept rows.batches gone ∙ sym gone
      | false ↦ λ e. any_kept (q m) kept
          (λ b out. ap (λ k. (k == m) && not b.is_open) (left_out b.no n out) ∙ ap (λ t. t && not b.is_open) e)
          rows.batches
    ] refl in
    seen_alike bs rows.records rows.lines rows.spans rows (closed 0)
    (λ m. any_alike (λ (r : RecordRow). (r.no == m) && is_closed r.batch bs)
    (λ (r : RecordRow). (r.no == m) && is_closed r.batch rows.batches)
    (λ r. ap (λ b. (r.no == m) && b) (closed r.batch)) rows.records) (λ m has. refl) (λ m has. refl)
