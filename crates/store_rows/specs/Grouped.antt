-- What the rows are as they are read, group by group. No clause that callers see names these definitions.
use Rattle.std.specs.Prelude.{
  ℕ,
  ◌≡◌,
  ◌≢◌,
  ◌==◌,
  ◌&&◌,
  ◌⊎◌,
  Bool,
  true,
  false,
  List,
  [],
  ◌++◌,
  map,
  filter,
  fold,
  Option,
  Some,
  None,
  MatchOption,
  unwrap_or,
  option_map,
}
use Rattle.std.specs.List.{list_any, flat_map}
use Rattle.std.specs.BTreeMap.{BTreeMap}
use Rattle.std.specs.Global.{Vec}
use Rattle.std.specs.BTreeMap as tree
use Rattle.std.specs.FinMap.{get, insert}
use Rattle.std.specs.Ordering.{nat_cmp}
use Rattle.record_text.specs.declared.refusal.RefusalKind.{RefusalKind}
use Rattle.record_text.specs.declared.refusal.RefusalKind.TheVariants.{OutOfMemory, BadStored}
use Rattle.stored_lines.specs.Line.{Label}
use Rattle.record_kinds.specs.declared.record.Record.{Record}
use Rattle.records.specs.Stored.{stored}
use Rattle.records.specs.Shallow.{IsShallow}
use Rattle.receipts.specs.declared.answer.Receipt.{Receipt}
use Rattle.archive_state.specs.Content.{Records, Receipts, Slips}
use Rattle.archive_state.specs.Slips.{Slip}
use Rattle.store_tables.specs.Rows.{SlipRow}
use Rattle.store_rows.specs.Sides.{SideLine, side_lines_in, NoChanges}
use Rattle.store_rows.specs.Meaning.{change_lines, slip_row, slip_row_at}

-- the items under a key, in order
abbrev pub items_at : {X : Type 0} → ℕ → List (ℕ × X) → List X
items_at {X} n ps = map (λ (p : ℕ × X). p.1) (filter (λ (p : ℕ × X). p.0 == n) ps)

-- the stored lines of a number: those in rows of their own, and those that a row has together
abbrev pub stored_at : List (ℕ × (ℕ × Label)) → List (ℕ × List (ℕ × Label)) → ℕ → List (ℕ × Label)
stored_at lines packs n = items_at n lines ++ flat_map (λ (ls : List (ℕ × Label)). ls) (items_at n packs)

-- the same of a map of groups
abbrev pub group_at : {X : Type 0} → BTreeMap ℕ (Vec X) → ℕ → List X
group_at {X} groups n = unwrap_or (option_map (λ (g : Vec X). g.items) (tree.get nat_cmp groups n)) []

-- the same of the lines of slips
abbrev pub slip_group_at : BTreeMap ℕ (Vec (ℕ × SideLine)) → ℕ → List SideLine
slip_group_at groups n = side_lines_in (group_at groups n)

-- whether one of the rows, each a number with its batch, gives a number a record
abbrev pub is_recorded : (ℕ → Bool) → List (ℕ × ℕ) → ℕ → Bool
is_recorded closed rows n = list_any (λ (r : ℕ × ℕ). (r.0 == n) && closed r.1) rows

-- the numbers of the rows in these batches, in the order of the rows
abbrev pub numbers_by : (ℕ → Bool) → List (ℕ × ℕ) → List ℕ
numbers_by closed rows = map (λ (r : ℕ × ℕ). r.0) (filter (λ (r : ℕ × ℕ). closed r.1) rows)

-- what is at a number with these lines
abbrev pub IsKeptAs : Bool → List (ℕ × Label) → Option Record → Type 0
IsKeptAs is_there lines found = MatchOption found (is_there ≡ false) (λ r. (is_there ≡ true) × (lines ≡ stored r))

-- the records of these rows, each kept as the lines of its number
abbrev pub AreRecordsOf : (ℕ → Bool) → (ℕ → List (ℕ × Label)) → List (ℕ × ℕ) → Records → Type 0
AreRecordsOf closed lines rows m = (n : ℕ) → IsKeptAs (is_recorded closed rows n) (lines n) (get m n)

-- lines of no record
abbrev pub NoRecord : List (ℕ × Label) → Type 0
NoRecord lines = (r : Record) → IsShallow r → lines ≢ stored r

-- a number with a record has lines of none
abbrev pub LacksRecord : (ℕ → Bool) → List (ℕ × ℕ) → (ℕ → List (ℕ × Label)) → Type 0
LacksRecord closed rows lines = (n : ℕ) × (is_recorded closed rows n ≡ true) × NoRecord (lines n)

-- what is kept under the tokens with one more row
abbrev pub with_kept : Receipts → List ℕ × Receipt → Receipts
with_kept m r = insert m r.0 r.1

-- what the last of these rows keeps
abbrev pub last_kept : List (List ℕ × Receipt) → Option Receipt
last_kept = fold (λ _ r. Some r.1) None

-- what slip is at a number, by its row and its lines
abbrev pub IsSlipBy : ℕ → Option SlipRow → List SideLine → Option Slip → Type 0
IsSlipBy n row lines found = MatchOption found (row ≡ None)
    (λ slip. (row ≡ Some (slip_row n slip)) × (lines ≡ flat_map change_lines slip.changes))

-- the slips of these rows, each with the changes that are kept as the lines of its number
abbrev pub AreSlipsOf : (ℕ → List SideLine) → List SlipRow → Slips → Type 0
AreSlipsOf lines rows m = (n : ℕ) → IsSlipBy n (slip_row_at n rows) (lines n) (get m n)

-- a slip has lines of no changes
abbrev pub LacksChanges : List SlipRow → (ℕ → List SideLine) → Type 0
LacksChanges rows lines = (n : ℕ) × (slip_row_at n rows ≢ None) × NoChanges (lines n)

-- memory was refused; or what is stored is bad, by this fact
abbrev pub IsRefusedBy : Type 0 → RefusalKind → Type 0
IsRefusedBy Fact kind = (kind ≡ OutOfMemory) ⊎ ((kind ≡ BadStored) × Fact)
