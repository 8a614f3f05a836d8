-- The rows of every number that an import does not put stay: its row in `record` and its lines.
use Rattle.std.proofs.Common.{◌≡◌, ◌≢◌, ℕ, true, List, [], ◌∷◌, filter, refl, ap, ◌∙◌}
use Rattle.std.specs.Prelude.{◌==◌, Option, Some, None}
use Rattle.record_shapes.specs.Lists.{EachOf}
use Rattle.archive_state.specs.Changes.{Changes}
use Rattle.archive_state.specs.declared.changes.Kept.{Kept}
use Rattle.archive_state.specs.declared.changes.Numbered.{Numbered}
use Rattle.store_tables.specs.Rows.{Rows, RecordRow, LineRow, PackRow, with_batch, with_closed, with_next}
use Rattle.store_rows.specs.Spans.{Drawn}
use Rattle.store_rows.specs.Writing.{with_kept_written}
use Rattle.staged_rows.specs.Staging.{
  StagedRow,
  a_record,
  a_pack,
  a_link,
  a_sought,
  a_span,
  rows_of_import,
  with_staged,
  with_staged_row,
  with_whole_import,
}
use Rattle.staged_rows.proofs.Lists.{filter_put}
use Rattle.staged_rows.proofs.Numbers.{of_any_later, of_rows}
use Rattle.list_laws.proofs.Numbers.{is_not}

record Stay (m : ℕ) (before after : Rows) : Type 0 where
  lines : filter (λ (l : LineRow). l.no == m) after.lines ≡ filter (λ (l : LineRow). l.no == m) before.lines
  packs : filter (λ (p : PackRow). p.no == m) after.packs ≡ filter (λ (p : PackRow). p.no == m) before.packs
  records : filter (λ (r : RecordRow). r.no == m) after.records ≡ filter (λ (r : RecordRow). r.no == m) before.records

then : (m : ℕ) (a b c : Rows) → Stay m b c → Stay m a b → Stay m a c
then m a b c h k = record {
  lines = h.lines ∙ k.lines;
  packs = h.packs ∙ k.packs;
  records = h.records ∙ k.records;
}

-- a row of `record` and a line are of another number
abbrev IsOfAnother : ℕ → StagedRow → Type 0
IsOfAnother m (a_record r) = r.no ≢ m
IsOfAnother m (a_pack n ls) = n ≢ m
IsOfAnother m (a_link l) = Unit {0}
IsOfAnother m (a_sought n s) = Unit {0}
IsOfAnother m (a_span n span) = Unit {0}

row_stays : (m : ℕ) (r : StagedRow) (rows : Rows) → IsOfAnother m r → Stay m rows (with_staged_row r rows)
row_stays m (a_record r) rows off = record {
  lines = refl;
  packs = refl;
  records = filter_put (λ (x : RecordRow). x.no) (λ (x : RecordRow). x.no == m)
      (record { no = r.no; kind = r.kind; batch = r.batch })
      (λ y same. ap (λ k. k == m) same ∙ is_not r.no m off) rows.records;
}
row_stays m (a_pack n ls) rows off = record {
  lines = refl;
  packs = filter_put (λ (x : PackRow). x.no) (λ (x : PackRow). x.no == m) (record { no = n; lines = ls })
      (λ y same. ap (λ k. k == m) same ∙ is_not n m off) rows.packs;
  records = refl;
}
row_stays m (a_link l) rows off = record { lines = refl; packs = refl; records = refl }
row_stays m (a_sought n s) rows off = record { lines = refl; packs = refl; records = refl }
row_stays m (a_span n span) rows off = record { lines = refl; packs = refl; records = refl }

all_stay : (m : ℕ) (rs : List StagedRow) (rows : Rows) → EachOf (IsOfAnother m) rs
    → Stay m rows (with_staged rs rows)
all_stay m [] rows off = record { lines = refl; packs = refl; records = refl }
all_stay m (r ∷ rs) rows off =
    then m rows (with_staged_row r rows) (with_staged rs (with_staged_row r rows))
    (all_stay m rs (with_staged_row r rows) off.1) (row_stays m r rows off.0)

kept_stays : (m : ℕ) (kept : Option Kept) (rows : Rows) → Stay m rows (with_kept_written kept rows)
kept_stays m None rows = record { lines = refl; packs = refl; records = refl }
kept_stays m (Some kept) rows = record { lines = refl; packs = refl; records = refl }

pub others_stay : (batch : ℕ) (changes : Changes) (drawn : Drawn) (rows : Rows) (m : ℕ)
    → EachOf (λ (p : Numbered). p.number ≢ m) changes.puts
    → (filter (λ (l : LineRow). l.no == m) (with_whole_import batch changes drawn rows).lines ≡ filter
    (λ (l : LineRow). l.no == m) rows.lines)
    × (filter (λ (p : PackRow). p.no == m) (with_whole_import batch changes drawn rows).packs ≡ filter
    (λ (p : PackRow). p.no == m) rows.packs)
    × (filter (λ (r : RecordRow). r.no == m) (with_whole_import batch changes drawn rows).records ≡ filter
    (λ (r : RecordRow). r.no == m) rows.records)
others_stay batch changes drawn rows m off =
    let rs = rows_of_import batch changes.puts drawn in
    let opened = with_batch batch true rows in
    let staged = with_staged rs opened in
    let others = of_rows (λ n. n ≢ m) (IsOfAnother m) batch (λ p is. is) (λ n ls is. is) changes.puts drawn
    (of_any_later (λ n. n ≢ m) (IsOfAnother m) (λ l. tt) (λ n s. tt) (λ n span. tt) changes.puts drawn) off in
    let early : Stay m opened staged = all_stay m rs opened others in
    let late = kept_stays m changes.kept (with_next changes.next (with_closed batch staged)) in
    (late.lines ∙ early.lines, late.packs ∙ early.packs, late.records ∙ early.records)
