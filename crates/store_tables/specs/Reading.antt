-- What the queries show of the rows: all but the keys that say nothing, the kinds, and the places of lines, which are
-- in order.
use Rattle.std.specs.Prelude.{
  ℕ,
  ℤ,
  Bool,
  true,
  List,
  [],
  ◌∷◌,
  ◌++◌,
  map,
  flat_map,
  length,
  ◌≡◌,
  ◌⊎◌,
  ◌^◌,
  ◌/◌,
  ◌%◌,
  IfSome,
  FitsSigned,
}
use Rattle.std.specs.Int.{w32}
use Rattle.std.specs.Str.{IsUtf8}
use Rattle.std.specs.List.{AllByRecursion}
use Rattle.stored_lines.specs.Line.{Label}
use Rattle.record_text.specs.Text.{IsText}
use Rattle.receipts.specs.Tokens.{IsToken}
use Rattle.receipts.specs.declared.answer.Receipt.{Receipt}
use Rattle.store_tables.specs.Rows.{
  Rows,
  BatchRow,
  RecordRow,
  LineRow,
  PackRow,
  ReceiptRow,
  SlipRow,
  SlipLineRow,
  SlipPackRow,
  SlipSide,
  SpanRow,
  LinkRow,
  SoughtRow,
  PastRow,
  lines_in_side,
  link_place,
  slip_line_of,
}
use Rattle.packed_rows.specs.Packed.{packed}
pub use Rattle.packed_rows.specs.Packed.{IsU32, IsTypedLine}

pub record ReadRows : Type 0 where
  pub next : ℕ
  pub batches : List BatchRow
  -- numbers, each with its batch
  pub records : List (ℕ × ℕ)
  -- stored lines in rows of their own, each with the number of its record
  pub lines : List (ℕ × (ℕ × Label))
  -- numbers of records, each with all its stored lines
  pub packs : List (ℕ × List (ℕ × Label))
  -- receipts, each with its token
  pub receipts : List (List ℕ × Receipt)
  pub slips : List SlipRow
  -- stored lines, each with its slip, its side and the number of its record: those in rows of their own, and those of
  -- sides in one row
  pub slip_lines : List (ℕ × (Bool × (ℕ × (ℕ × Label))))

abbrev pub read_record : RecordRow → ℕ × ℕ
read_record r = (r.no, r.batch)

abbrev pub read_line : LineRow → ℕ × (ℕ × Label)
read_line l = (l.no, l.line)

abbrev pub read_pack : PackRow → ℕ × List (ℕ × Label)
read_pack p = (p.no, p.lines)

abbrev pub read_receipt : ReceiptRow → List ℕ × Receipt
read_receipt r = (r.token, r.receipt)

abbrev pub read_slip_line : SlipLineRow → ℕ × (Bool × (ℕ × (ℕ × Label)))
read_slip_line s = (s.slip, slip_line_of s)

abbrev pub read_slip_pack : SlipPackRow → ℕ × SlipSide
read_slip_pack s = (s.slip, s.side)

-- the lines of a side, each with the slip
abbrev pub lines_in_pack : ℕ × SlipSide → List (ℕ × (Bool × (ℕ × (ℕ × Label))))
lines_in_pack p = map (λ l. (p.0, l)) (lines_in_side p.1)

-- all lines of slips, as they are read
abbrev pub read_sides : Rows → List (ℕ × (Bool × (ℕ × (ℕ × Label))))
read_sides rows = map read_slip_line rows.slip_lines ++ flat_map lines_in_pack (map read_slip_pack rows.slip_packs)

-- the pair at a place among all pairs of numbers of 32 bits
abbrev pub pair_at : ℕ → LinkRow
pair_at place = record { target = place / 2 ^ 32; no = place % 2 ^ 32 }

abbrev pub read_link : LinkRow → LinkRow
read_link l = pair_at (link_place l)

-- the key, the token and the text of a value of before
abbrev pub read_past : PastRow → ℤ × (List ℕ × List ℕ)
read_past p = (p.id, (p.token, p.text))

abbrev pub read_of : Rows → ReadRows
read_of rows = record {
  next = rows.next;
  batches = rows.batches;
  records = map read_record rows.records;
  lines = map read_line rows.lines;
  packs = map read_pack rows.packs;
  receipts = map read_receipt rows.receipts;
  slips = rows.slips;
  slip_lines = read_sides rows;
}

-- ---- values that the program's types have
-- a version that this program reads
abbrev pub IsVersion : ℕ → Type 0
IsVersion version = (version ≡ 1) ⊎ (version ≡ 2)

-- the lines of a record: there is a first one, which stands at depth 0
abbrev pub HaveTop : List (ℕ × Label) → Type 0
HaveTop [] = ⊥
HaveTop (l ∷ ls) = l.0 ≡ 0

pub record IsTypedPack (p : PackRow) : Type 0 where
  pub number : IsU32 p.no
  pub top : HaveTop p.lines
  pub lines : AllByRecursion IsTypedLine p.lines
  pub text : IsUtf8 (packed p.lines)

pub record IsTypedSlipPack (s : SlipPackRow) : Type 0 where
  pub slip : IsU32 s.slip
  pub place : IsU32 s.place
  pub number : IsU32 s.side.1.0
  pub top : HaveTop s.side.1.1
  pub lines : AllByRecursion IsTypedLine s.side.1.1
  pub text : IsUtf8 (packed s.side.1.1)

abbrev pub IsTypedReceipt : Receipt → Type 0
IsTypedReceipt r = (length r.digest ≡ 32) × IsU32 r.answer.first × IsU32 r.answer.count

abbrev pub IsTypedSlip : SlipRow → Type 0
IsTypedSlip s = IsU32 s.no × IsU32 s.keep × IsU32 s.gone

-- a day, a number of 32 bits with a sign
abbrev pub IsDay : ℤ → Type 0
IsDay day = FitsSigned w32 day

abbrev pub IsTypedSpan : SpanRow → Type 0
IsTypedSpan s = IsU32 s.no × IfSome s.lo IsDay × IfSome s.hi IsDay

abbrev pub IsTypedLink : LinkRow → Type 0
IsTypedLink l = IsU32 l.target × IsU32 l.no

abbrev pub IsTypedSought : SoughtRow → Type 0
IsTypedSought s = IsU32 s.no × IsText s.text × IfSome s.target IsU32

-- a value of before that can be read, as not each row of theirs can
abbrev pub IsTypedPast : PastRow → Type 0
IsTypedPast p = IsToken p.token × IsUtf8 p.text

-- each value of the rows is one of its type: numbers of 32 bits, texts, tags, tokens, digests of 32 bytes; and the
-- second version has packs, spans, links and what is looked for
pub record AreTyped (rows : Rows) : Type 0 where
  pub version : IsVersion rows.version
  pub dated : rows.version ≡ 2 → rows.has_spans ≡ true
  pub society : IsText rows.society
  pub batches : AllByRecursion (λ (b : BatchRow). IsU32 b.no) rows.batches
  pub records : AllByRecursion (λ (r : RecordRow). IsU32 r.no × IsU32 r.batch) rows.records
  pub lines : AllByRecursion (λ (l : LineRow). IsU32 l.no × IsTypedLine l.line) rows.lines
  pub packs : AllByRecursion IsTypedPack rows.packs
  pub receipts : AllByRecursion (λ (r : ReceiptRow). IsToken r.token × IsTypedReceipt r.receipt) rows.receipts
  pub slips : AllByRecursion IsTypedSlip rows.slips
  pub slip_lines : AllByRecursion (λ (s : SlipLineRow). IsU32 s.slip × IsU32 s.no × IsTypedLine s.line) rows.slip_lines
  pub slip_packs : AllByRecursion IsTypedSlipPack rows.slip_packs
  pub spans : AllByRecursion IsTypedSpan rows.spans
  pub links : AllByRecursion IsTypedLink rows.links
  pub soughts : AllByRecursion IsTypedSought rows.soughts
