-- What an archive of that time is today: each date that fits the grammar of today is the date that its text says, in
-- its canonical spelling. A rule of our own.
use Rattle.std.specs.Prelude.{ℕ, ◌≡◌, List, Bool, map, Option, None, option_map}
use Rattle.std.specs.FinMap.{FinMap, get}
use Rattle.std.specs.Ordering.{nat_cmp}
use Rattle.record_fields.specs.Dated.{date_text}
use Rattle.record_fields.specs.declared.date.Date.{Date}
use Rattle.record_kinds.specs.declared.record.Record.{Record}
use Rattle.record_kinds.specs.declared.record.Record.TheVariants as kind
use Rattle.record_shapes.specs.Reading.{dated, read_by}
use Rattle.record_text.specs.Text.{IsText}
use Rattle.archive_state.specs.Content.{Content, Receipts}
use Rattle.archive_state.specs.Slips.{Slip}
use Rattle.archive_state.specs.Sound.{IsSound}
use Rattle.archive_state.specs.declared.slip.Change.{Change}
use Rattle.date_spans.specs.Spans.{date_in}
use Rattle.older_archives.specs.Old.{OldRecord}

-- the record with another date, or with none
abbrev pub with_date : Option Date → Record → Record
with_date date (kind.Event e) = kind.Event (record e { date = date })
with_date date (kind.Entry e) = kind.Entry (record e { date = date })
with_date date r = r

-- the record of today: its date is what the text says today
abbrev pub anew : OldRecord → Record
anew o = with_date (read_by dated o.date) o.rest

-- ---- an archive of that time
pub record OldChange : Type 0 where
  pub number : ℕ
  pub old : OldRecord
  pub «new» : Option OldRecord

pub record OldSlip : Type 0 where
  pub keep : ℕ
  pub gone : ℕ
  pub changes : List OldChange
  pub is_undone : Bool

pub record OldContent : Type 0 where
  pub records : FinMap nat_cmp OldRecord
  pub next : ℕ
  pub receipts : Receipts
  pub slips : FinMap nat_cmp OldSlip

-- ---- what it is today: each record anew, those that slips keep too; all else stays
abbrev pub change_anew : OldChange → Change
change_anew c = record { number = c.number; old = anew c.old; «new» = option_map anew c.«new» }

abbrev pub slip_anew : OldSlip → Slip
slip_anew s = record { keep = s.keep; gone = s.gone; changes = map change_anew s.changes; is_undone = s.is_undone }

pub record IsAnew (before : OldContent) (c : Content) : Type 0 where
  pub records : (n : ℕ) → get c.records n ≡ option_map anew (get before.records n)
  pub next : c.next ≡ before.next
  pub receipts : c.receipts ≡ before.receipts
  pub slips : (n : ℕ) → get c.slips n ≡ option_map slip_anew (get before.slips n)

-- ---- an archive with texts for its dates: for equal dates equal texts
abbrev pub old_by : (Date → List ℕ) → Record → OldRecord
old_by text r = record { rest = with_date None r; date = option_map text (date_in r) }

abbrev pub old_change_by : (Date → List ℕ) → Change → OldChange
old_change_by text c = record { number = c.number; old = old_by text c.old; «new» = option_map (old_by text) c.«new» }

abbrev pub old_slip_by : (Date → List ℕ) → Slip → OldSlip
old_slip_by text s = record {
  keep = s.keep;
  gone = s.gone;
  changes = map (old_change_by text) s.changes;
  is_undone = s.is_undone;
}

pub record IsOldBy (text : Date → List ℕ) (c : Content) (before : OldContent) : Type 0 where
  pub records : (n : ℕ) → get before.records n ≡ option_map (old_by text) (get c.records n)
  pub next : before.next ≡ c.next
  pub receipts : before.receipts ≡ c.receipts
  pub slips : (n : ℕ) → get before.slips n ≡ option_map (old_slip_by text) (get c.slips n)

-- an archive of today as one of that time: each date is its spelling
abbrev pub IsAsBefore : Content → OldContent → Type 0
IsAsBefore c before = IsOldBy date_text c before

-- ---- other dates for those of an archive of today
abbrev pub redated : (Date → Date) → Record → Record
redated f r = with_date (option_map f (date_in r)) r

abbrev pub redated_change : (Date → Date) → Change → Change
redated_change f c = record { number = c.number; old = redated f c.old; «new» = option_map (redated f) c.«new» }

abbrev pub redated_slip : (Date → Date) → Slip → Slip
redated_slip f s = record {
  keep = s.keep;
  gone = s.gone;
  changes = map (redated_change f) s.changes;
  is_undone = s.is_undone;
}

pub record IsRedated (f : Date → Date) (c after : Content) : Type 0 where
  pub records : (n : ℕ) → get after.records n ≡ option_map (redated f) (get c.records n)
  pub next : after.next ≡ c.next
  pub slips : (n : ℕ) → get after.slips n ≡ option_map (redated_slip f) (get c.slips n)

-- an archive of that time is sound where it is a sound one of today with other texts for its dates, each of them a
-- text: no rule looks at what a date says
pub record IsSoundOld (before : OldContent) : Type 0 where
  pub text : Date → List ℕ
  pub are_texts : (d : Date) → IsText d.text → IsText (text d)
  pub content : Content
  pub sound : IsSound content
  pub is : IsOldBy text content before
