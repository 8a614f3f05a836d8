-- What the rows of the first version mean, whose dates are texts in the spelling of that time, and what they mean
-- today. Rules of our own.
use Rattle.std.specs.Prelude.{ℕ, ◌≡◌, Bool, true, false, List, [], ◌++◌, Option, Some, None, IfSome, MatchOption}
use Rattle.std.specs.List.{flat_map}
use Rattle.std.specs.FinMap.{get}
use Rattle.stored_lines.specs.Line.{Label}
use Rattle.records.specs.Shallow.{IsShallow}
use Rattle.record_shapes.specs.Lists.{EachOf}
use Rattle.archive_state.specs.Content.{Content}
use Rattle.archive_state.specs.Sound.{EachIn}
use Rattle.older_archives.specs.Anew.{IsAnew, OldChange, OldContent, OldSlip}
use Rattle.older_archives.specs.Old.{IsOld, OldRecord, WasKeptAs, stored_with}
use Rattle.store_tables.specs.Rows.{Rows, SlipRow, lines_of, slip_lines_of}
use Rattle.store_rows.specs.Meaning.{has_record, is_closed, receipts_in, side_lines, slip_row_at}

-- what is at a number: where it has a record, the one of that time that was kept as its lines
abbrev pub WasRecordAt : Rows → ℕ → Option OldRecord → Type 0
WasRecordAt rows n found = MatchOption found (has_record n rows ≡ false)
    (λ o. (has_record n rows ≡ true) × WasKeptAs (lines_of n rows) o)

-- the lines that a record of that time was kept as
abbrev pub old_lines : OldRecord → List (ℕ × Label)
old_lines o = stored_with o.date o.rest

abbrev pub old_new_side : ℕ → Option OldRecord → List (Bool × (ℕ × (ℕ × Label)))
old_new_side n None = []
old_new_side n (Some o) = side_lines true n (old_lines o)

-- a change as lines: those of the old record, and then those of the new one, where there is one
abbrev pub old_change_lines : OldChange → List (Bool × (ℕ × (ℕ × Label)))
old_change_lines c = side_lines false c.number (old_lines c.old) ++ old_new_side c.number c.new

-- both records of a change are of that time
abbrev pub IsOldChange : OldChange → Type 0
IsOldChange c = IsOld c.old × IfSome c.new IsOld

abbrev pub old_slip_row : ℕ → OldSlip → SlipRow
old_slip_row n slip = record { no = n; keep = slip.keep; gone = slip.gone; is_undone = slip.is_undone }

-- what slip is at a number
abbrev pub WasSlipAt : Rows → ℕ → Option OldSlip → Type 0
WasSlipAt rows n found = MatchOption found (slip_row_at n rows.slips ≡ None)
    (λ slip. (slip_row_at n rows.slips ≡ Some (old_slip_row n slip))
    × (slip_lines_of n rows ≡ flat_map old_change_lines slip.changes) × EachOf IsOldChange slip.changes)

-- rows of the first version, which has no spans
pub record MeansOld (rows : Rows) (before : OldContent) : Type 0 where
  pub version : rows.version ≡ 1
  pub has_spans : rows.has_spans ≡ false
  -- the batch of all commands but imports is there and closed
  pub batch : is_closed 0 rows.batches ≡ true
  pub records : (n : ℕ) → WasRecordAt rows n (get before.records n)
  pub next : rows.next ≡ before.next
  pub receipts : before.receipts ≡ receipts_in rows.receipts
  pub slips : (n : ℕ) → WasSlipAt rows n (get before.slips n)

-- ---- what can be read
abbrev pub IsShallowOld : OldRecord → Type 0
IsShallowOld o = IsShallow o.rest

abbrev pub IsShallowOldChange : OldChange → Type 0
IsShallowOldChange c = IsShallowOld c.old × IfSome c.new IsShallowOld

-- each record of that time, those of slips too, has carried lines of at most 99 levels
pub record AllShallowOld (before : OldContent) : Type 0 where
  pub records : EachIn before.records (λ _. IsShallowOld)
  pub slips : EachIn before.slips (λ _ (s : OldSlip). EachOf IsShallowOldChange s.changes)

-- ---- what they mean today
abbrev pub MeansAnew : Rows → Content → Type 0
MeansAnew rows c = (before : OldContent) × MeansOld rows before × IsAnew before c × AllShallowOld before

-- rows of which the same is seen: the same records, each kept as the same lines, and all else but batches and society
pub record AreSeenAlike (rows other : Rows) : Type 0 where
  pub version : other.version ≡ rows.version
  pub has_spans : other.has_spans ≡ rows.has_spans
  pub next : other.next ≡ rows.next
  pub receipts : other.receipts ≡ rows.receipts
  pub slips : other.slips ≡ rows.slips
  pub slip_lines : other.slip_lines ≡ rows.slip_lines
  pub slip_packs : other.slip_packs ≡ rows.slip_packs
  pub batch : is_closed 0 other.batches ≡ is_closed 0 rows.batches
  pub recorded : (n : ℕ) → has_record n other ≡ has_record n rows
  pub lines : (n : ℕ) → has_record n rows ≡ true → lines_of n other ≡ lines_of n rows
