-- Rows of the first version mean one content at the most today.
use Rattle.std.proofs.Common.{◌≡◌, ℕ, Bool, true, false, List, map, refl, sym, ap, ◌∙◌}
use Rattle.std.specs.Prelude.{Option, Some, None, MatchOption, option_map}
use Rattle.std.specs.FinMap.{get, same_map, nat_cmp-IsAntisymmetric}
use Rattle.std.specs.Cmp.{nat_cmp_total}
use Rattle.std.specs.List.{flat_map}
use Rattle.stored_lines.specs.Line.{Label}
use Rattle.record_shapes.specs.Lists.{EachOf}
use Rattle.archive_state.specs.Content.{Content}
use Rattle.older_archives.specs.Anew.{OldContent, OldSlip, anew, change_anew, slip_anew}
use Rattle.older_archives.specs.Old.{OldRecord, WasKeptAs}
use Rattle.older_archives.proofs.OneOld.{one_old}
use Rattle.store_tables.specs.Rows.{Rows, SlipRow, lines_of, slip_lines_of}
use Rattle.store_rows.specs.Meaning.{has_record, receipts_in, slip_row_at}
use Rattle.store_rows.specs.Sides.{SideLine}
use Rattle.store_rows.proofs.SidesParted.{one_changes}
use Rattle.older_archives.specs.Meaning.{AreSeenAlike, IsOldChange, MeansAnew, MeansOld, old_change_lines, old_slip_row}
use Rattle.older_archives.specs.Reading.{new_side_lines}
use Rattle.older_archives.proofs.Parted.{are_of_sides, one_old_sides, old_sides, were_of_sides, were_sides}

-- what was at a number that has a row or none, and these lines
abbrev pub WasAt : Bool → List (ℕ × Label) → Option OldRecord → Type 0
WasAt has lines found = MatchOption found (has ≡ false) (λ o. (has ≡ true) × WasKeptAs lines o)

abbrev pub WasSlipOf : ℕ → Option SlipRow → List SideLine → Option OldSlip → Type 0
WasSlipOf n row lines found = MatchOption found (row ≡ None) (λ slip. (row ≡ Some (old_slip_row n slip))
    × (lines ≡ flat_map old_change_lines slip.changes) × EachOf IsOldChange slip.changes)

one_at : (has : Bool) (lines : List (ℕ × Label)) (found other : Option OldRecord) → WasAt has lines found
    → WasAt has lines other → found ≡ other
one_at has lines None None h k = refl
one_at has lines None (Some p) h k = absurd (let no : true ≡ false = sym k.0 ∙ h in cc)
one_at has lines (Some o) None h k = absurd (let no : true ≡ false = sym h.0 ∙ k in cc)
one_at has lines (Some o) (Some p) h k = ap Some (one_old lines o p h.1 k.1)

one_slip : (n : ℕ) (row : Option SlipRow) (lines : List SideLine) (found other : Option OldSlip)
    → WasSlipOf n row lines found → WasSlipOf n row lines other
    → option_map slip_anew found ≡ option_map slip_anew other
one_slip n row lines None None h k = refl
one_slip n row lines None (Some t) h k = absurd (let no : Some (old_slip_row n t) ≡ None = sym k.0 ∙ h in cc)
one_slip n row lines (Some s) None h k = absurd (let no : Some (old_slip_row n s) ≡ None = sym h.0 ∙ k in cc)
one_slip n row lines (Some s) (Some t) h k =
    let rows : Some (old_slip_row n s) ≡ Some (old_slip_row n t) = sym h.0 ∙ k.0 in
    let same : old_slip_row n s ≡ old_slip_row n t = cc in
    let sides : flat_map old_sides s.changes ≡ flat_map old_sides t.changes =
    one_old_sides (flat_map old_sides s.changes) (flat_map old_sides t.changes) (were_sides s.changes h.2)
    (were_sides t.changes k.2) (sym (were_of_sides s.changes) ∙ sym h.1 ∙ k.1 ∙ were_of_sides t.changes) in
    let changes : map change_anew s.changes ≡ map change_anew t.changes =
    one_changes (map change_anew s.changes) (map change_anew t.changes)
    (are_of_sides s.changes ∙ ap (flat_map new_side_lines) sides ∙ sym (are_of_sides t.changes)) in
    λ i. Some (record {
      keep = (same i).keep;
      gone = (same i).gone;
      changes = changes i;
      is_undone = (same i).is_undone;
    })

pub one_content : (rows : Rows) (c d : Content) → MeansAnew rows c → MeansAnew rows d → c ≡ d
one_content rows c d (before, h, is, deep) (other, k, are, deep2) =
    let records : c.records ≡ d.records = same_map nat_cmp_total nat_cmp-IsAntisymmetric _ _
    (λ n. is.records n
    ∙ ap (option_map anew) (one_at (has_record n rows) (lines_of n rows) _ _ (h.records n) (k.records n))
    ∙ sym (are.records n)) in
    let next : c.next ≡ d.next = is.next ∙ sym h.next ∙ k.next ∙ sym are.next in
    let receipts : c.receipts ≡ d.receipts = is.receipts ∙ h.receipts ∙ sym k.receipts ∙ sym are.receipts in
    let slips : c.slips ≡ d.slips = same_map nat_cmp_total nat_cmp-IsAntisymmetric _ _
    (λ n. is.slips n
    ∙ one_slip n (slip_row_at n rows.slips) (slip_lines_of n rows) _ _ (h.slips n) (k.slips n)
    ∙ sym (are.slips n)) in
    λ i. record { records = records i; next = next i; receipts = receipts i; slips = slips i }

-- ---- other rows of which the same is seen
seen_at : (has has2 : Bool) (lines lines2 : List (ℕ × Label)) (found : Option OldRecord) → has2 ≡ has
    → (has ≡ true → lines2 ≡ lines) → WasAt has lines found → WasAt has2 lines2 found
seen_at has has2 lines lines2 None e f h = e ∙ h
seen_at has has2 lines lines2 (Some o) e f h = (e ∙ h.0, record { is = h.1.is; lines = f h.0 ∙ h.1.lines })

seen_slip : (n : ℕ) (row row2 : Option SlipRow) (lines lines2 : List SideLine) (found : Option OldSlip) → row2 ≡ row
    → lines2 ≡ lines → WasSlipOf n row lines found → WasSlipOf n row2 lines2 found
seen_slip n row row2 lines lines2 None e f h = e ∙ h
seen_slip n row row2 lines lines2 (Some s) e f h = (e ∙ h.0, f ∙ h.1, h.2)

pub seen_old : (rows other : Rows) (before : OldContent) → AreSeenAlike rows other → MeansOld rows before
    → MeansOld other before
seen_old rows other before alike old = record {
  version = alike.version ∙ old.version;
  has_spans = alike.has_spans ∙ old.has_spans;
  batch = alike.batch ∙ old.batch;
  records = λ n. seen_at (has_record n rows) (has_record n other) (lines_of n rows) (lines_of n other)
      (get before.records n) (alike.recorded n) (alike.lines n) (old.records n);
  next = alike.next ∙ old.next;
  receipts = old.receipts ∙ ap receipts_in (sym alike.receipts);
  slips = λ n. seen_slip n (slip_row_at n rows.slips) (slip_row_at n other.slips) (slip_lines_of n rows)
      (slip_lines_of n other) (get before.slips n) (ap (slip_row_at n) alike.slips)
      (λ i. slip_lines_of n (record rows { slip_lines = alike.slip_lines i; slip_packs = alike.slip_packs i }))
      (old.slips n);
}

pub seen_anew : (rows other : Rows) (c : Content) → AreSeenAlike rows other → MeansAnew rows c → MeansAnew other c
seen_anew rows other c alike (before, old, is, deep) = (before, seen_old rows other before alike old, is, deep)
