-- The rows mean what the changes make, and rows mean one content at the most.
use Rattle.std.proofs.Common.{◌≡◌, ℕ, Bool, true, false, List, [], ◌∷◌, refl, sym, ap, subst, ◌∙◌}
use Rattle.std.specs.Prelude.{◌==◌, ◌&&◌, Option, Some, None}
use Rattle.std.specs.List.{list_any}
use Rattle.std.specs.FinMap.{insert, empty}
use Rattle.std.proofs.lemmas.List.Sums.{fold-append}
use Rattle.stored_lines.specs.Line.{Label}
use Rattle.record_kinds.specs.declared.record.Record.{Record}
use Rattle.records.specs.Stored.{stored}
use Rattle.archive_state.specs.Changes.{Changes}
use Rattle.archive_state.specs.Content.{Content, Receipts}
use Rattle.archive_state.specs.Applied.{with_all, without, with_kept, with_slip, applied}
use Rattle.archive_state.specs.declared.changes.Numbered.{Numbered}
use Rattle.archive_state.specs.declared.changes.Kept.{Kept}
use Rattle.archive_state.specs.declared.changes.SlipChange.{SlipChange}
use Rattle.archive_state.specs.declared.changes.SlipChange.TheVariants as change
use Rattle.store_tables.specs.Rows.{Rows, RecordRow, ReceiptRow, lines_of, next_key, with_next}
use Rattle.store_rows.specs.Meaning.{Means, is_closed, has_record}
use Rattle.store_rows.specs.Writing.{
  with_record_rows,
  without_all_lines,
  without_records,
  with_puts_written,
  with_kept_written,
  with_slip_written,
  with_changes,
}
use Rattle.store_rows.proofs.Got.{got_puts, got_without}
use Rattle.store_rows.proofs.Puts.{
  last_of,
  IsAt,
  last_read,
  rows_put,
  rows_removed,
  lines_put,
  lines_removed,
  rows_put_only,
  rows_removed_only,
  lines_put_only,
  lines_removed_only,
}
use Rattle.store_rows.proofs.Slips.{made_read, undone_read}

moved : (has has2 : Bool) (lines lines2 : List (ℕ × Label)) (found found2 : Option Record) → has ≡ has2 → lines ≡ lines2
    → found ≡ found2 → IsAt has2 lines2 found2 → IsAt has lines found
moved has has2 lines lines2 found found2 p q r h = rw (p, q, r) h

-- ---- records
pub puts_only : (ps : List Numbered) (rows : Rows) → with_puts_written ps rows
    ≡ record rows {
      records = (with_record_rows ps rows).records;
      lines = (with_puts_written ps rows).lines;
      packs = (with_puts_written ps rows).packs;
    }
puts_only ps rows = lines_put_only ps (with_record_rows ps rows)
    ∙ ap (λ (r : Rows). record r {
      lines = (with_puts_written ps rows).lines;
      packs = (with_puts_written ps rows).packs;
    })
    (rows_put_only ps rows)

puts_mean : (ps : List Numbered) (rows : Rows) (c : Content) → Means rows c
    → Means (with_puts_written ps rows) (with_all c ps)
puts_mean ps rows c h = subst (λ r. Means r (with_all c ps)) (sym (puts_only ps rows)) (record {
  batch = h.batch;
  records = λ n. moved _ _ _ _ _ _ (rows_put n ps rows h.batch)
      (lines_put n ps (with_record_rows ps rows)
      ∙ ap (λ r. last_of (λ (p : Numbered). p.number) (λ (p : Numbered). stored p.«record») n ps (lines_of n r))
      (rows_put_only ps rows))
      (got_puts n ps c.records)
      (last_read (λ (p : Numbered). p.number) (λ _. true) (λ (p : Numbered). stored p.«record»)
      (λ (p : Numbered). Some p.«record») (λ p. (refl, refl)) n ps _ _ _ (h.records n));
  next = h.next;
  receipts = h.receipts;
  slips = h.slips;
})

pub removed_only : (ns : List ℕ) (rows : Rows) → without_records ns rows
    ≡ record rows {
      records = (without_records ns rows).records;
      lines = (without_all_lines ns rows).lines;
      packs = (without_all_lines ns rows).packs;
    }
removed_only ns rows = rows_removed_only ns (without_all_lines ns rows)
    ∙ ap (λ (r : Rows). record r { records = (without_records ns rows).records }) (lines_removed_only ns rows)

removed_mean : (ns : List ℕ) (rows : Rows) (c : Content) → Means rows c → Means (without_records ns rows)
    (record c { records = without c.records ns })
removed_mean ns rows c h =
    subst (λ r. Means r (record c { records = without c.records ns })) (sym (removed_only ns rows)) (record {
      batch = h.batch;
      records = λ n. moved _ _ _ _ _ _ (rows_left n) (lines_removed n ns rows) (got_without n ns c.records)
          (last_read (λ k. k) (λ _. false) (λ _. []) (λ _. None) (λ k. refl) n ns _ _ _ (h.records n));
      next = h.next;
      receipts = h.receipts;
      slips = h.slips;
    })
  where
    rows_left : (n : ℕ) → list_any (λ (r : RecordRow). (r.no == n) && is_closed r.batch rows.batches)
        (without_records ns rows).records ≡ last_of (λ k. k) (λ _. false) n ns (has_record n rows)
    rows_left n = subst (λ (w : Rows). list_any (λ (r : RecordRow). (r.no == n) && is_closed r.batch w.batches)
        (without_records ns rows).records ≡ last_of (λ k. k) (λ _. false) n ns (has_record n w))
        (lines_removed_only ns rows) (rows_removed n ns (without_all_lines ns rows))

-- ---- receipts
kept_mean : (kept : Option Kept) (rows : Rows) (c : Content) → Means rows c → Means (with_kept_written kept rows)
    (record c { receipts = with_kept c.receipts kept })
kept_mean None rows c h = h
kept_mean (Some kept) rows c h =
    let row : ReceiptRow = record {
      id = next_key (λ (r : ReceiptRow). r.id) rows.receipts;
      token = kept.token;
      receipt = kept.receipt;
    } in
    let one : Receipts → ReceiptRow → Receipts = λ m r. insert m r.token r.receipt in
    record {
      batch = h.batch;
      records = h.records;
      next = h.next;
      receipts = ap (λ m. insert m kept.token kept.receipt) h.receipts
          ∙ sym (fold-append one empty rows.receipts (row ∷ []));
      slips = h.slips;
    }

-- ---- slips
slip_means : (slip : Option SlipChange) (rows : Rows) (c : Content) → Means rows c
    → Means (with_slip_written slip rows) (record c { slips = with_slip c.slips slip })
slip_means None rows c h = h
slip_means (Some (change.Made n slip)) rows c h = record {
  batch = h.batch;
  records = h.records;
  next = h.next;
  receipts = h.receipts;
  slips = λ k. made_read n slip rows c.slips k (h.slips k);
}
slip_means (Some (change.Undone n)) rows c h = record {
  batch = h.batch;
  records = h.records;
  next = h.next;
  receipts = h.receipts;
  slips = λ k. undone_read n rows c.slips k (h.slips k);
}

-- ---- all changes
next_means : (n : ℕ) (rows : Rows) (c : Content) → Means rows c → Means (with_next n rows) (record c { next = n })
next_means n rows c h = record {
  batch = h.batch;
  records = h.records;
  next = refl;
  receipts = h.receipts;
  slips = h.slips;
}

pub changes_mean : (changes : Changes) (rows : Rows) (c : Content) → Means rows c
    → Means (with_changes changes rows) (applied c changes)
changes_mean changes rows c h =
    slip_means changes.slip _ _
    (kept_mean changes.kept _ _
    (next_means changes.next _ _ (removed_mean changes.removals _ _ (puts_mean changes.puts rows c h))))
