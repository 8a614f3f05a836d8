-- The rows of every number that no change names stay.
use Rattle.std.proofs.Common.{◌≡◌, ◌≢◌, ℕ, List, [], ◌∷◌, filter, refl, ap, ◌∙◌}
use Rattle.std.specs.Prelude.{◌==◌, Option, Some, None}
use Rattle.records.specs.Stored.{stored}
use Rattle.archive_state.specs.Changes.{Changes}
use Rattle.record_shapes.specs.Lists.{EachOf}
use Rattle.archive_state.specs.declared.changes.Numbered.{Numbered}
use Rattle.archive_state.specs.declared.changes.Kept.{Kept}
use Rattle.archive_state.specs.declared.changes.SlipChange.{SlipChange}
use Rattle.archive_state.specs.declared.changes.SlipChange.TheVariants as change
use Rattle.store_tables.specs.Rows.{
  Rows,
  RecordRow,
  LineRow,
  PackRow,
  with_next,
  with_record_row,
  without_record_row,
  without_lines,
  with_changed_lines,
}
use Rattle.store_rows.specs.Writing.{
  kind_word,
  with_record_rows,
  with_all_lines,
  without_all_lines,
  without_record_rows,
  without_records,
  with_puts_written,
  with_kept_written,
  with_slip_written,
  with_changes,
}
use Rattle.store_rows.proofs.Meaning.{puts_only, removed_only}
use Rattle.store_rows.proofs.Own.{own, put_elsewhere, others_left}
use Rattle.store_rows.proofs.Puts.{changed_elsewhere, packs_elsewhere, rows_put_only, lines_removed_only}

abbrev lines_at : ℕ → Rows → List LineRow
lines_at m rows = own (λ (l : LineRow). l.no) m rows.lines

abbrev packs_at : ℕ → Rows → List PackRow
packs_at m rows = own (λ (p : PackRow). p.no) m rows.packs

abbrev records_at : ℕ → Rows → List RecordRow
records_at m rows = own (λ (r : RecordRow). r.no) m rows.records

-- ---- lines
lines_put : (m : ℕ) (ps : List Numbered) (rows : Rows) → EachOf (λ (p : Numbered). p.number ≢ m) ps
    → lines_at m (with_all_lines ps rows) ≡ lines_at m rows
lines_put m [] rows off = refl
lines_put m (p ∷ ps) rows off = lines_put m ps (with_changed_lines p.number (stored p.«record») rows) off.1
    ∙ changed_elsewhere m p.number (stored p.«record») rows off.0

lines_removed : (m : ℕ) (ns : List ℕ) (rows : Rows) → EachOf (λ n. n ≢ m) ns → lines_at m (without_all_lines ns rows)
    ≡ lines_at m rows
lines_removed m [] rows off = refl
lines_removed m (n ∷ ns) rows off = lines_removed m ns (without_lines n rows) off.1 ∙ others_left
    (λ (l : LineRow). l.no) m n rows.lines off.0

packs_put : (m : ℕ) (ps : List Numbered) (rows : Rows) → EachOf (λ (p : Numbered). p.number ≢ m) ps
    → packs_at m (with_all_lines ps rows) ≡ packs_at m rows
packs_put m [] rows off = refl
packs_put m (p ∷ ps) rows off = packs_put m ps (with_changed_lines p.number (stored p.«record») rows) off.1
    ∙ packs_elsewhere m p.number (stored p.«record») rows off.0

packs_removed : (m : ℕ) (ns : List ℕ) (rows : Rows) → EachOf (λ n. n ≢ m) ns → packs_at m (without_all_lines ns rows)
    ≡ packs_at m rows
packs_removed m [] rows off = refl
packs_removed m (n ∷ ns) rows off = packs_removed m ns (without_lines n rows) off.1 ∙ others_left
    (λ (p : PackRow). p.no) m n rows.packs off.0

-- ---- the rows of records
records_put : (m : ℕ) (ps : List Numbered) (rows : Rows) → EachOf (λ (p : Numbered). p.number ≢ m) ps
    → records_at m (with_record_rows ps rows) ≡ records_at m rows
records_put m [] rows off = refl
records_put m (p ∷ ps) rows off =
    records_put m ps (with_record_row p.number (kind_word p.«record») 0 rows) off.1
    ∙ put_elsewhere (λ (r : RecordRow). r.no) m (record { no = p.number; kind = kind_word p.«record»; batch = 0 })
    rows.records off.0

records_removed : (m : ℕ) (ns : List ℕ) (rows : Rows) → EachOf (λ n. n ≢ m) ns
    → records_at m (without_record_rows ns rows) ≡ records_at m rows
records_removed m [] rows off = refl
records_removed m (n ∷ ns) rows off = records_removed m ns (without_record_row n rows) off.1
    ∙ others_left (λ (r : RecordRow). r.no) m n rows.records off.0

-- ---- all
record Stay (m : ℕ) (before after : Rows) : Type 0 where
  lines : lines_at m after ≡ lines_at m before
  packs : packs_at m after ≡ packs_at m before
  records : records_at m after ≡ records_at m before

then : (m : ℕ) (a b c : Rows) → Stay m b c → Stay m a b → Stay m a c
then m a b c h k = record {
  lines = h.lines ∙ k.lines;
  packs = h.packs ∙ k.packs;
  records = h.records ∙ k.records;
}

puts_stay : (m : ℕ) (ps : List Numbered) (rows : Rows) → EachOf (λ (p : Numbered). p.number ≢ m) ps
    → Stay m rows (with_puts_written ps rows)
puts_stay m ps rows off = record {
  lines = lines_put m ps (with_record_rows ps rows) off ∙ ap (lines_at m) (rows_put_only ps rows);
  packs = packs_put m ps (with_record_rows ps rows) off ∙ ap (packs_at m) (rows_put_only ps rows);
  records = ap (records_at m) (puts_only ps rows) ∙ records_put m ps rows off;
}

removals_stay : (m : ℕ) (ns : List ℕ) (rows : Rows) → EachOf (λ n. n ≢ m) ns → Stay m rows (without_records ns rows)
removals_stay m ns rows off = record {
  lines = ap (lines_at m) (removed_only ns rows) ∙ lines_removed m ns rows off;
  packs = ap (packs_at m) (removed_only ns rows) ∙ packs_removed m ns rows off;
  records = records_removed m ns (without_all_lines ns rows) off ∙ ap (records_at m) (lines_removed_only ns rows);
}

kept_stays : (m : ℕ) (kept : Option Kept) (rows : Rows) → Stay m rows (with_kept_written kept rows)
kept_stays m None rows = record { lines = refl; packs = refl; records = refl }
kept_stays m (Some kept) rows = record { lines = refl; packs = refl; records = refl }

slip_stays : (m : ℕ) (slip : Option SlipChange) (rows : Rows) → Stay m rows (with_slip_written slip rows)
slip_stays m None rows = record { lines = refl; packs = refl; records = refl }
slip_stays m (Some (change.Made n slip)) rows = record { lines = refl; packs = refl; records = refl }
slip_stays m (Some (change.Undone n)) rows = record { lines = refl; packs = refl; records = refl }

pub others_stay : (changes : Changes) (rows : Rows) (m : ℕ) → EachOf (λ (p : Numbered). p.number ≢ m) changes.puts
    → EachOf (λ n. n ≢ m) changes.removals
    → (filter (λ (l : LineRow). l.no == m) (with_changes changes rows).lines ≡ filter
    (λ (l : LineRow). l.no == m) rows.lines)
    × (filter (λ (p : PackRow). p.no == m) (with_changes changes rows).packs ≡ filter
    (λ (p : PackRow). p.no == m) rows.packs)
    × (filter (λ (r : RecordRow). r.no == m) (with_changes changes rows).records ≡ filter
    (λ (r : RecordRow). r.no == m) rows.records)
others_stay changes rows m puts removals =
    let put : Rows = with_puts_written changes.puts rows in
    let removed : Rows = without_records changes.removals put in
    let counted : Rows = with_next changes.next removed in
    let kept : Rows = with_kept_written changes.kept counted in
    let early : Stay m rows removed = then m rows put removed (removals_stay m changes.removals put removals)
    (puts_stay m changes.puts rows puts) in
    let late : Stay m counted (with_changes changes rows) = then m counted kept (with_changes changes rows)
    (slip_stays m changes.slip kept) (kept_stays m changes.kept counted) in
    (late.lines ∙ early.lines, late.packs ∙ early.packs, late.records ∙ early.records)
