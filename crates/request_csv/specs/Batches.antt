-- The register entries of an input's rows: kind, page, item, date, place, text, and then role and name of each mention.
-- A row has neither token, verb nor source; its place may be a reference. Rules of our own.
use Rattle.std.specs.Prelude.{
  ◌≡◌,
  ◌⊎◌,
  ◌+◌,
  ◌++◌,
  ℕ,
  true,
  false,
  List,
  [],
  ◌∷◌,
  length,
  slice_get,
  Option,
  Some,
  None,
  option_map,
  Result,
  Ok,
  Err,
  if◌then◌else◌,
}
use Rattle.csv.specs.Records.{AllText, fields_of}
use Rattle.record_text.specs.declared.refusal.Refusal.{Refusal}
use Rattle.record_text.specs.declared.refusal.RefusalKind.{RefusalKind}
use Rattle.record_text.specs.declared.refusal.RefusalKind.TheVariants.{BadRow, NoSuch, OutOfMemory, ReadFailed}
use Rattle.commands.specs.Rows.{ReadsEntry}
use Rattle.commands.specs.declared.entry_row.EntryRow.{EntryRow}
use Rattle.row_references.specs.Entries.{has_place_reference, place_field, place_number}
use Rattle.row_references.specs.References.{with_number}
use Rattle.request_csv.specs.Input.{AreFirstRows, AreRows, Row}
use Rattle.request_csv.specs.declared.batch_rows.BatchRow.{BatchRow}
use Rattle.request_csv.specs.declared.batch_rows.BatchRow.TheVariants.{Entry, Referring}

-- a row is this entry, or is refused so: before all else each field has to be UTF-8
abbrev pub ReadsRow : Row → Result EntryRow RefusalKind → Type 0
ReadsRow row outcome = (AllText row × ReadsEntry row outcome) ⊎ (¬ (AllText row) × (outcome ≡ Err BadRow))

-- ---- rows as they are read, before anything is known of an archive
-- the row with the number 1 in place of its reference: by it the form of a row is judged
abbrev pub in_form : Row → Row
in_form row = if has_place_reference row then with_number row place_field 1 else row

-- a row is its entry; with a reference it is the row, and the entry of its form
abbrev pub IsRead : Row → BatchRow → Type 0
IsRead row (Entry entry) = (has_place_reference row ≡ false) × ReadsRow row (Ok entry)
IsRead row (Referring own entry) =
    (has_place_reference row ≡ true) × (fields_of own ≡ row) × ReadsRow (in_form row) (Ok entry)

-- each row is read so, in their order
abbrev pub AreRead : List Row → List BatchRow → Type 0
AreRead [] [] = Unit {0}
AreRead [] (read ∷ more) = ⊥
AreRead (row ∷ rows) [] = ⊥
AreRead (row ∷ rows) (read ∷ more) = IsRead row read × AreRead rows more

-- these are all rows
abbrev pub ReadsRows : Option (List ℕ) → List BatchRow → Type 0
ReadsRows input read = (rows : List Row) × AreRows input rows × AreRead rows read

-- the form of a row is refused, and that of each before it is an entry; the place is its number, from 1
pub record RefusesRow (input : Option (List ℕ)) (e : Refusal) : Type 0 where
  pub before : List Row
  pub read : List BatchRow
  pub row : Row
  pub first : AreFirstRows input (before ++ row ∷ [])
  pub each : AreRead before read
  pub refused : ReadsRow (in_form row) (Err e.kind)
  pub place : e.at ≡ Some (length before + 1)

-- a refusal that no row is to blame for
abbrev pub placeless : RefusalKind → Refusal
placeless kind = record { kind = kind; at = None }

-- out of memory, or the reader failed; or it is the refusal of a row
abbrev pub IsRefused : Option (List ℕ) → Refusal → Type 0
IsRefused input e = (e ≡ placeless OutOfMemory) ⊎ ((e ≡ placeless ReadFailed) ⊎ RefusesRow input e)

-- ---- rows with numbers in place of their references
-- the row with a number for its reference; none: there is no number
abbrev pub placed_by : Option ℕ → Row → Option Row
placed_by number row =
    if has_place_reference row then option_map (with_number row place_field) number else Some row

-- a row is this entry, or is refused so, with a number for its reference
abbrev pub ReadsPlaced : Option ℕ → Row → Result EntryRow RefusalKind → Type 0
ReadsPlaced number row outcome = (own : Row) × (placed_by number row ≡ Some own) × ReadsRow own outcome

abbrev pub or_none : Option (Option ℕ) → Option ℕ
or_none None = None
or_none (Some number) = number

-- the number at a place, from 0
abbrev pub number_at : List (Option ℕ) → ℕ → Option ℕ
number_at numbers at = or_none (slice_get numbers at)

-- each row is an entry, in their order, with the numbers from a place on
abbrev pub AreEntries : List (Option ℕ) → ℕ → List Row → List EntryRow → Type 0
AreEntries numbers at [] [] = Unit {0}
AreEntries numbers at [] (entry ∷ entries) = ⊥
AreEntries numbers at (row ∷ rows) [] = ⊥
AreEntries numbers at (row ∷ rows) (entry ∷ entries) =
    ReadsPlaced (number_at numbers at) row (Ok entry) × AreEntries numbers (at + 1) rows entries

-- these rows are an input's, and their entries are these
abbrev pub ReadsBatch : List (Option ℕ) → Option (List ℕ) → List Row → List EntryRow → Type 0
ReadsBatch numbers input rows entries = AreRows input rows × AreEntries numbers 0 rows entries

-- why a row is no entry: its reference has no number, or it is refused with it
abbrev pub LacksEntry : Option ℕ → Row → RefusalKind → Type 0
LacksEntry number row kind = ((placed_by number row ≡ None) × (kind ≡ NoSuch)) ⊎ ReadsPlaced number row (Err kind)

-- one of the rows is no entry, and each before it is one; the place is its number, from 1
pub record RefusesPlaced (numbers : List (Option ℕ)) (rows : List Row) (e : Refusal) : Type 0 where
  pub before : List Row
  pub entries : List EntryRow
  pub row : Row
  pub after : List Row
  pub all : rows ≡ before ++ row ∷ after
  pub each : AreEntries numbers 0 before entries
  pub refused : LacksEntry (number_at numbers (length before)) row e.kind
  pub place : e.at ≡ Some (length before + 1)

-- a row is an entry, or it is refused at its number; or memory was refused
abbrev pub SettlesRow : Option ℕ → Row → ℕ → Result EntryRow Refusal → Type 0
SettlesRow number row place (Ok entry) = ReadsPlaced number row (Ok entry)
SettlesRow number row place (Err e) =
    (e ≡ placeless OutOfMemory) ⊎ (LacksEntry number row e.kind × (e.at ≡ Some place))

-- the entries of all rows, or the refusal of the first that is none; or memory was refused
abbrev pub Settles : List (Option ℕ) → List Row → Result (List EntryRow) Refusal → Type 0
Settles numbers rows (Ok entries) = AreEntries numbers 0 rows entries
Settles numbers rows (Err e) = (e ≡ placeless OutOfMemory) ⊎ RefusesPlaced numbers rows e

-- ---- the numbers
-- the number that the token of a row has
abbrev pub number_for : (List ℕ → Option ℕ) → BatchRow → Option ℕ
number_for known (Entry entry) = None
number_for known (Referring own entry) = place_number known (fields_of own)
