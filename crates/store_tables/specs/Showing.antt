-- What the tables of the schema show to the queries that read them, whoever wrote the rows.
use Rattle.std.specs.Prelude.{◌≡◌, ℕ, ℤ, pos, not, Bool, true, false, List, [], ◌∷◌, flat_map}
use Rattle.std.specs.Ordering.{int_eq}
use Rattle.sqlite.specs.declared.types.Value.TheVariants.{Int, Text as Words, Blob}
use Rattle.sqlite.specs.Order.{Row, column}
use Rattle.sqlite.specs.State.{State, Shown}
use Rattle.stored_lines.specs.Line.{Label}
use Rattle.packed_rows.specs.Packed.{packed}
use Rattle.receipts.specs.declared.answer.Receipt.{Receipt}
use Rattle.store_tables.specs.Conversion.{EachWith, IsLineAt}
use Rattle.store_tables.specs.Looking.{meta_query}
use Rattle.store_tables.specs.Prepared.{
  batch_query,
  record_query,
  line_query,
  pack_query,
  receipt_query,
  slip_query,
  slip_line_query,
  link_query,
  sought_query,
  span_query,
}
use Rattle.store_tables.specs.Reading.{ReadRows, lines_in_pack, read_of}
use Rattle.store_tables.specs.Rows.{
  BatchRow,
  LinkRow,
  Rows,
  SlipRow,
  SlipSide,
  SoughtRow,
  SpanRow,
  day_or_null,
  first_tag,
  first_target,
  integer_at,
  link_place,
  number_or_null,
}

-- ---- that a row shows an item
-- the columns from a place on: a number is a flag, which is set where it is not 0
abbrev pub IsFlagAt : Row → ℕ → Bool → Type 0
IsFlagAt row at flag = (n : ℤ) × (column row at ≡ Int n) × (flag ≡ not (int_eq n (pos 0)))

abbrev pub IsNumberAt : Row → ℕ → ℕ → Type 0
IsNumberAt row at n = column row at ≡ Int (pos n)

-- the next number and the society, which stand after the version
abbrev pub ShowsMeta : Row → ℕ × List ℕ → Type 0
ShowsMeta row m = IsNumberAt row 1 m.0 × (column row 2 ≡ Words m.1)

abbrev pub ShowsBatch : Row → BatchRow → Type 0
ShowsBatch row b = IsNumberAt row 0 b.no × IsFlagAt row 1 b.is_open

abbrev pub ShowsRecord : Row → ℕ × ℕ → Type 0
ShowsRecord row r = IsNumberAt row 0 r.0 × IsNumberAt row 1 r.1

abbrev pub ShowsLine : Row → ℕ × (ℕ × Label) → Type 0
ShowsLine row l = IsNumberAt row 0 l.0 × IsLineAt row 1 l.1

-- a number, and of its lines the first one's tag, the packed text and the number that the first one names
abbrev pub ShowsPack : Row → ℕ × List (ℕ × Label) → Type 0
ShowsPack row p = IsNumberAt row 0 p.0 × (column row 1 ≡ Words (first_tag p.1)) × (column row 2 ≡ Words (packed p.1))
    × (column row 3 ≡ number_or_null (first_target p.1))

-- only a number
abbrev pub ShowsNumber : Row → ℕ → Type 0
ShowsNumber row n = IsNumberAt row 0 n

abbrev pub ShowsReceipt : Row → List ℕ × Receipt → Type 0
ShowsReceipt row r = (column row 0 ≡ Words r.0) × (column row 1 ≡ Blob r.1.digest)
    × IsNumberAt row 2 r.1.answer.first × IsNumberAt row 3 r.1.answer.count

abbrev pub ShowsSlip : Row → SlipRow → Type 0
ShowsSlip row s = IsNumberAt row 0 s.no × IsNumberAt row 1 s.keep × IsNumberAt row 2 s.gone × IsFlagAt row 3 s.is_undone

abbrev pub ShowsSlipLine : Row → ℕ × (Bool × (ℕ × (ℕ × Label))) → Type 0
ShowsSlipLine row s = IsNumberAt row 0 s.0 × IsFlagAt row 1 s.1.0 × IsNumberAt row 2 s.1.1.0 × IsLineAt row 3 s.1.1.1

-- a side with all its lines, of which the row shows what `ShowsPack` does
abbrev pub ShowsSlipPack : Row → ℕ × SlipSide → Type 0
ShowsSlipPack row s = IsNumberAt row 0 s.0 × IsFlagAt row 1 s.1.0 × IsNumberAt row 2 s.1.1.0
    × (column row 4 ≡ Words (first_tag s.1.1.1)) × (column row 5 ≡ Words (packed s.1.1.1))
    × (column row 6 ≡ number_or_null (first_target s.1.1.1))

-- a number, and the days that may be missing
abbrev pub ShowsSpan : Row → SpanRow → Type 0
ShowsSpan row s = IsNumberAt row 0 s.no × (column row 1 ≡ day_or_null s.lo) × (column row 2 ≡ day_or_null s.hi)

-- the integer of a pair
abbrev pub ShowsLink : Row → LinkRow → Type 0
ShowsLink row l = column row 0 ≡ Int (integer_at (link_place l))

-- a number, what it is looked for by, and the number that may go with it
abbrev pub ShowsSought : Row → SoughtRow → Type 0
ShowsSought row s = IsNumberAt row 0 s.no × (column row 1 ≡ Words s.text) × (column row 2 ≡ number_or_null s.target)

-- a key, a token and a text
abbrev pub ShowsPast : Row → ℤ × (List ℕ × List ℕ) → Type 0
ShowsPast row p = (column row 0 ≡ Int p.0) × (column row 1 ≡ Words p.1.0) × (column row 2 ≡ Words p.1.1)

-- ---- what the queries show
-- a query shows a row for each item, in their order
abbrev pub ShowsEach : {Y : Type 0} → List ℕ → (Row → Y → Type 0) → State → State → List Y → Type 0
ShowsEach sql Shows old new items = (all : List Row) × Shown sql [] old new all × EachWith Shows all items

pub record ShowsRecords (batches : List BatchRow) (records : List (ℕ × ℕ)) (old new : State) : Type 0 where
  pub batches_shown : ShowsEach batch_query ShowsBatch old new batches
  pub records_shown : ShowsEach record_query ShowsRecord old new records

-- lines in rows of their own are of the first schema, and lines of which a record has one row of the second one
abbrev pub ShowsLines : Bool → List (ℕ × (ℕ × Label)) → List (ℕ × List (ℕ × Label)) → State → State → Type 0
ShowsLines false lines packs old new = ShowsEach line_query ShowsLine old new lines × (packs ≡ [])
ShowsLines true lines packs old new = ShowsEach pack_query ShowsPack old new packs × (lines ≡ [])

-- the lines of slips are in rows of their own in the first schema, and in the second one a side has one row
abbrev pub ShowsSides : Bool → List (ℕ × (Bool × (ℕ × (ℕ × Label)))) → State → State → Type 0
ShowsSides false lines old new = ShowsEach slip_line_query ShowsSlipLine old new lines
ShowsSides true lines old new = (packs : List (ℕ × SlipSide)) × ShowsEach slip_line_query ShowsSlipPack old new packs
    × (lines ≡ flat_map lines_in_pack packs)

pub record ShowsHistory (has_spans : Bool) (receipts : List (List ℕ × Receipt)) (slips : List SlipRow)
    (slip_lines : List (ℕ × (Bool × (ℕ × (ℕ × Label))))) (old new : State) : Type 0 where
  pub receipts_shown : ShowsEach receipt_query ShowsReceipt old new receipts
  pub slips_shown : ShowsEach slip_query ShowsSlip old new slips
  pub slip_lines_shown : ShowsSides has_spans slip_lines old new

-- each query of a schema shows what is read
pub record ShowsRead (has_spans : Bool) (read : ReadRows) (old new : State) : Type 0 where
  pub meta : (society : List ℕ) × ShowsEach meta_query ShowsMeta old new ((read.next, society) ∷ [])
  pub records : ShowsRecords read.batches read.records old new
  pub lines : ShowsLines has_spans read.lines read.packs old new
  pub history : ShowsHistory has_spans read.receipts read.slips read.slip_lines old new

-- whoever reads the tables is shown these rows, and leaves the tables as they are
abbrev pub ShowsRows : Rows → State → Type 0
ShowsRows rows s = ShowsRead rows.has_spans (read_of rows) s s

-- whoever reads the spans is shown these, and leaves the tables as they are
abbrev pub ShowsSpans : List SpanRow → State → Type 0
ShowsSpans spans s = ShowsEach span_query ShowsSpan s s spans

abbrev pub ShowsLinks : List LinkRow → State → Type 0
ShowsLinks links s = ShowsEach link_query ShowsLink s s links

abbrev pub ShowsSoughts : List SoughtRow → State → Type 0
ShowsSoughts soughts s = ShowsEach sought_query ShowsSought s s soughts
