-- Rows of which all that is read is this.
use Rattle.std.proofs.Common.{◌≡◌, ℕ, Bool, List, [], ◌∷◌, map, append-nil, refl, sym, subst}
use Rattle.sqlite.specs.State.{State}
use Rattle.stored_lines.specs.Line.{Label}
use Rattle.receipts.specs.declared.answer.Receipt.{Receipt}
use Rattle.archive_state.specs.Content.{Content}
use Rattle.store_tables.specs.Reading.{
  ReadRows,
  read_line,
  read_of,
  read_pack,
  read_receipt,
  read_record,
  read_slip_line,
}
use Rattle.store_tables.specs.Rows.{LineRow, PackRow, ReceiptRow, RecordRow, Rows, SlipLineRow}
use Rattle.store_tables.specs.Showing.{ShowsRead, ShowsRows}
use Rattle.store_rows.specs.Meaning.{Means}

-- what no reader looks at is left empty or is that of a new archive: the version, the kinds, the keys and the places of
-- lines, the spans, the links and what is looked for
abbrev record_of : ℕ × ℕ → RecordRow
record_of r = record { no = r.0; kind = []; batch = r.1 }

abbrev line_of : ℕ × (ℕ × Label) → LineRow
line_of l = record { id = 0; no = l.0; at = 0; line = l.1 }

abbrev pack_of : ℕ × List (ℕ × Label) → PackRow
pack_of p = record { no = p.0; lines = p.1 }

abbrev receipt_of : List ℕ × Receipt → ReceiptRow
receipt_of r = record { id = 0; token = r.0; receipt = r.1 }

abbrev slip_line_row : ℕ × (Bool × (ℕ × (ℕ × Label))) → SlipLineRow
slip_line_row s = record { id = 0; slip = s.0; is_new = s.1.0; no = s.1.1.0; at = 0; line = s.1.1.1 }

abbrev rows_of : Bool → ReadRows → Rows
rows_of has_spans read = record {
  version = 2;
  has_spans = has_spans;
  next = read.next;
  society = [];
  batches = read.batches;
  records = map record_of read.records;
  lines = map line_of read.lines;
  packs = map pack_of read.packs;
  receipts = map receipt_of read.receipts;
  slips = read.slips;
  slip_lines = map slip_line_row read.slip_lines;
  slip_packs = [];
  spans = [];
  links = [];
  soughts = [];
  pasts = [];
}

back : {X Y : Type 0} (make : Y → X) (read : X → Y) (same : (y : Y) → read (make y) ≡ y) (ys : List Y)
    → map read (map make ys) ≡ ys
back make read same [] = refl
back make read same (y ∷ ys) = rw (same y, back make read same ys) refl

pair : {A B : Type 0} (p : A × B) → (p.0, p.1) ≡ p
pair (a, b) = refl

nested : {A B C D : Type 0} (p : A × (B × (C × D))) → (p.0, (p.1.0, (p.1.1.0, p.1.1.1))) ≡ p
nested (a, (b, (c, d))) = refl

read_back : (has_spans : Bool) (read : ReadRows) → read_of (rows_of has_spans read) ≡ read
read_back has_spans read =
    let same : read_of (rows_of has_spans read) ≡ record {
      next = read.next;
      batches = read.batches;
      records = read.records;
      lines = read.lines;
      packs = read.packs;
      receipts = read.receipts;
      slips = read.slips;
      slip_lines = read.slip_lines;
    } = rw (
      back record_of read_record pair read.records,
      back line_of read_line pair read.lines,
      back pack_of read_pack pair read.packs,
      back receipt_of read_receipt pair read.receipts,
      back slip_line_row read_slip_line nested read.slip_lines,
      append-nil read.slip_lines,
    ) refl in
    same

pub shown_rows : (old : State) (has_spans : Bool) (read : ReadRows) (c : Content) → ((rows : Rows) → read_of rows ≡ read
    → Means rows c) → ShowsRead has_spans read old old → (rows : Rows) × ShowsRows rows old × Means rows c
shown_rows old has_spans read c means shown =
    let same = read_back has_spans read in (
      rows_of has_spans read,
      subst (λ r. ShowsRead has_spans r old old) (sym same) shown,
      means (rows_of has_spans read) same,
    )
