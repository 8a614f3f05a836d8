-- Rows mean one content at the most.
use Rattle.std.proofs.Common.{◌≡◌, ℕ, Bool, List, refl, sym, ap, ◌∙◌}
use Rattle.std.specs.Prelude.{Option, Some, None}
use Rattle.std.specs.FinMap.{same_map, nat_cmp-IsAntisymmetric}
use Rattle.std.specs.Cmp.{nat_cmp_total}
use Rattle.stored_lines.specs.Line.{Label}
use Rattle.record_kinds.specs.declared.record.Record.{Record}
use Rattle.records.proofs.Shallow.{stored_one}
use Rattle.archive_state.specs.Content.{Content}
use Rattle.archive_state.specs.Slips.{Slip}
use Rattle.store_tables.specs.Rows.{Rows, SlipRow, lines_of, slip_lines_of}
use Rattle.store_rows.specs.Meaning.{Means, has_record, slip_row, slip_row_at}
use Rattle.store_rows.proofs.Puts.{IsAt}
use Rattle.store_rows.proofs.SidesParted.{one_changes}
use Rattle.store_rows.proofs.Slips.{IsSlipOf}

pub one_at : (has : Bool) (lines : List (ℕ × Label)) (found other : Option Record) → IsAt has lines found
    → IsAt has lines other → found ≡ other
one_at has lines None None h k = refl
one_at has lines None (Some s) h k = absurd cc
one_at has lines (Some r) None h k = absurd cc
one_at has lines (Some r) (Some s) h k = ap Some (stored_one r s (sym h.1 ∙ k.1))

pub one_slip : (n : ℕ) (row : Option SlipRow) (lines : List (Bool × (ℕ × (ℕ × Label)))) (found other : Option Slip)
    → IsSlipOf n row lines found → IsSlipOf n row lines other → found ≡ other
one_slip n row lines None None h k = refl
one_slip n row lines None (Some t) h k = absurd cc
one_slip n row lines (Some s) None h k = absurd cc
one_slip n row lines (Some s) (Some t) h k =
    let rows : Some (slip_row n s) ≡ Some (slip_row n t) = sym h.0 ∙ k.0 in
    let same : slip_row n s ≡ slip_row n t = cc in
    let changes : s.changes ≡ t.changes = one_changes s.changes t.changes (sym h.1 ∙ k.1) in
    λ i. Some (record {
      keep = (same i).keep;
      gone = (same i).gone;
      changes = changes i;
      is_undone = (same i).is_undone;
    })

pub one_content : (rows : Rows) (c d : Content) → Means rows c → Means rows d → c ≡ d
one_content rows c d h k =
    let records : c.records ≡ d.records = same_map nat_cmp_total nat_cmp-IsAntisymmetric _ _
    (λ n. one_at (has_record n rows) (lines_of n rows) _ _ (h.records n) (k.records n)) in
    let next : c.next ≡ d.next = sym h.next ∙ k.next in
    let receipts : c.receipts ≡ d.receipts = h.receipts ∙ sym k.receipts in
    let slips : c.slips ≡ d.slips = same_map nat_cmp_total nat_cmp-IsAntisymmetric _ _
    (λ n. one_slip n (slip_row_at n rows.slips) (slip_lines_of n rows) _ _ (h.slips n) (k.slips n)) in
    λ i. record { records = records i; next = next i; receipts = receipts i; slips = slips i }
