-- What the rows of an archive mean: its records, the next number, its receipts and its slips. A relation; a law says
-- that rows mean one content at the most. Rules of our own.
use Rattle.std.specs.Prelude.{
  ℕ,
  ◌≡◌,
  ◌==◌,
  ◌&&◌,
  not,
  Bool,
  true,
  false,
  List,
  [],
  ◌∷◌,
  ◌++◌,
  map,
  fold,
  cond,
  Option,
  Some,
  None,
  MatchOption,
}
use Rattle.std.specs.List.{list_any, flat_map}
use Rattle.std.specs.FinMap.{get, insert, empty}
use Rattle.stored_lines.specs.Line.{Label}
use Rattle.record_kinds.specs.declared.record.Record.{Record}
use Rattle.records.specs.Stored.{stored}
use Rattle.records.specs.Shallow.{IsShallow}
use Rattle.archive_state.specs.Content.{Content, Receipts}
use Rattle.archive_state.specs.Slips.{Slip}
use Rattle.record_shapes.specs.Lists.{EachOf}
use Rattle.archive_state.specs.Sound.{EachIn}
use Rattle.archive_state.specs.declared.slip.Change.{Change}
use Rattle.store_tables.specs.Rows.{Rows, BatchRow, RecordRow, ReceiptRow, SlipRow, lines_of, slip_lines_of}

-- whether a batch is there and closed
abbrev pub is_closed : ℕ → List BatchRow → Bool
is_closed n = list_any (λ (b : BatchRow). (b.no == n) && not b.is_open)

-- whether a number has a record: its row is of a closed batch
abbrev pub has_record : ℕ → Rows → Bool
has_record n rows = list_any (λ (r : RecordRow). (r.no == n) && is_closed r.batch rows.batches) rows.records

-- what is at a number: where it has a record, the one that is kept as its lines
abbrev pub IsRecordAt : Rows → ℕ → Option Record → Type 0
IsRecordAt rows n found = MatchOption found (has_record n rows ≡ false)
    (λ r. (has_record n rows ≡ true) × (lines_of n rows ≡ stored r))

-- what is kept under the tokens; of two rows of one token the later one
abbrev pub receipts_in : List ReceiptRow → Receipts
receipts_in = fold (λ m (r : ReceiptRow). insert m r.token r.receipt) empty

-- the lines of one side of a change
abbrev pub side_lines : Bool → ℕ → List (ℕ × Label) → List (Bool × (ℕ × (ℕ × Label)))
side_lines is_new n = map (λ l. (is_new, (n, l)))

abbrev pub new_side : ℕ → Option Record → List (Bool × (ℕ × (ℕ × Label)))
new_side n None = []
new_side n (Some r) = side_lines true n (stored r)

-- a change as lines: those of the old record, and then those of the new one, where there is one
abbrev pub change_lines : Change → List (Bool × (ℕ × (ℕ × Label)))
change_lines c = side_lines false c.number (stored c.old) ++ new_side c.number c.new

-- the row of a slip's number
abbrev pub slip_row_at : ℕ → List SlipRow → Option SlipRow
slip_row_at n [] = None
slip_row_at n (s ∷ ss) = cond (s.no == n) (Some s) (slip_row_at n ss)

-- a slip's row
abbrev pub slip_row : ℕ → Slip → SlipRow
slip_row n slip = record { no = n; keep = slip.keep; gone = slip.gone; is_undone = slip.is_undone }

-- what slip is at a number: its row has the two persons and whether it was undone, its lines are those of the changes
-- in order
abbrev pub IsSlipAt : Rows → ℕ → Option Slip → Type 0
IsSlipAt rows n found = MatchOption found (slip_row_at n rows.slips ≡ None)
    (λ slip. (slip_row_at n rows.slips ≡ Some (slip_row n slip))
    × (slip_lines_of n rows ≡ flat_map change_lines slip.changes))

pub record Means (rows : Rows) (c : Content) : Type 0 where
  -- the batch of all commands but imports is there and closed
  pub batch : is_closed 0 rows.batches ≡ true
  pub records : (n : ℕ) → IsRecordAt rows n (get c.records n)
  pub next : rows.next ≡ c.next
  pub receipts : c.receipts ≡ receipts_in rows.receipts
  pub slips : (n : ℕ) → IsSlipAt rows n (get c.slips n)

-- ---- what can be read
abbrev pub IsShallowOption : Option Record → Type 0
IsShallowOption None = Unit {0}
IsShallowOption (Some r) = IsShallow r

abbrev pub IsShallowSlip : Slip → Type 0
IsShallowSlip slip = EachOf (λ (c : Change). IsShallow c.old × IsShallowOption c.new) slip.changes

-- each record, those of slips too, has carried lines of at most 99 levels, as each of a program has by its type
pub record AllShallow (c : Content) : Type 0 where
  pub records : EachIn c.records (λ _. IsShallow)
  pub slips : EachIn c.slips (λ _. IsShallowSlip)

-- rows that can be read: each record and each slip is kept as its lines
abbrev pub AreReadable : Rows → Type 0
AreReadable rows = (c : Content) × Means rows c × AllShallow c
