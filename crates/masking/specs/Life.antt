-- Who is dead, and who is living: rules of our own. All of them are judged in the archive as it is, before anything is
-- masked. Days are counted from 1970-01-01, day 0.
use Rattle.std.specs.Prelude.{
  ℕ,
  ◌≡◌,
  ◌⊎◌,
  ◌==◌,
  List,
  [],
  ◌∷◌,
  Bool,
  true,
  false,
  Option,
  Some,
  None,
  codes,
  bytes_eq,
  ℤ,
  pos,
  ◌-ℤ◌,
  ◌≤ℤ◌,
  if◌then◌else◌,
}
use Rattle.std.specs.List.{list_any}
use Rattle.std.specs.FinMap.{get}
use Rattle.calendar_days.specs.Bounds.{IsGreatest}
use Rattle.gedcom_date.specs.Form.{Form}
use Rattle.gedcom_date.specs.Grammar.{Says}
use Rattle.gedcom_date.specs.Days.{IsDayOf}
use Rattle.record_fields.specs.declared.date.Date.{Date}
use Rattle.record_fields.specs.declared.entry_words.Role.{Role}
use Rattle.record_fields.specs.declared.entry_words.Role.TheVariants as role
use Rattle.record_kinds.specs.Model as model
use Rattle.record_kinds.specs.declared.record.Record.TheVariants as kind
use Rattle.archive_state.specs.Content.{Records}

-- ---- dates
-- the last day that the date may mean; None: it has none, as AFT and what is no date
abbrev pub IsLastDay : Date → Option ℤ → Type 0
IsLastDay date last = (form : Form) × Says date.text form × IsGreatest (IsDayOf form) last

-- the date has a last day, which is at most that day
abbrev pub HasEnded : Date → ℤ → Type 0
HasEnded date day = (last : ℤ) × IsLastDay date (Some last) × (last ≤ℤ day)

-- there is a date, and it has ended
abbrev pub HasEndedIfThere : Option Date → ℤ → Type 0
HasEndedIfThere None day = ⊥
HasEndedIfThere (Some date) day = HasEnded date day

-- ---- a person is dead for one of these reasons
-- the event is of that person or family, who own it; a participant does not
abbrev pub IsEventOf : Records → ℕ → model.Event → Type 0
IsEventOf m owner e = (k : ℕ) × (get m k ≡ Some (kind.Event e)) × (e.owner ≡ owner)

-- a death, a burial or a cremation
abbrev pub ends_a_life : List ℕ → Bool
ends_a_life tag = list_any (bytes_eq tag) (codes "DEAT" ∷ codes "BURI" ∷ codes "CREM" ∷ [])

-- first: they own a death, a burial or a cremation
abbrev pub OwnsDeath : Records → ℕ → Type 0
OwnsDeath m n = (e : model.Event) × IsEventOf m n e × (ends_a_life e.tag ≡ true)

abbrev pub is_buried : Role → Bool
is_buried role.Buried = true
is_buried _ = false

abbrev pub is_link_to : ℕ → Option model.Link → Bool
is_link_to n None = false
is_link_to n (Some l) = l.person == n

-- the mention is of that person, as the one who is buried
abbrev pub buries : ℕ → model.Mention → Bool
buries n x = if is_buried x.role then is_link_to n x.link else false

-- second: in some register entry they are linked as the one who is buried
abbrev pub IsBuried : Records → ℕ → Type 0
IsBuried m n = (k : ℕ) × (e : model.Entry) × (get m k ≡ Some (kind.Entry e)) × (list_any (buries n) e.mentions ≡ true)

-- 110 years before
abbrev pub long_before : ℤ → ℤ
long_before today = today -ℤ pos 40178

-- an event of theirs ended that long ago
abbrev pub OwnsOldEvent : Records → ℤ → ℕ → Type 0
OwnsOldEvent m today owner = (e : model.Event) × IsEventOf m owner e × HasEndedIfThere e.date (long_before today)

abbrev pub is_partner : ℕ → model.Family → Bool
is_partner n x = list_any (λ (p : model.Partner). p.person == n) x.partners

-- an event of a family where they are a partner ended that long ago
abbrev pub HasOldFamily : Records → ℤ → ℕ → Type 0
HasOldFamily m today n = (f : ℕ) × (x : model.Family) × (get m f ≡ Some (kind.Family x)) × (is_partner n x ≡ true)
    × OwnsOldEvent m today f

-- third: an event of theirs, or of a family where they are a partner, ended that long ago
abbrev pub IsLongPast : Records → ℤ → ℕ → Type 0
IsLongPast m today n = OwnsOldEvent m today n ⊎ HasOldFamily m today n

abbrev pub IsDead : Records → ℤ → ℕ → Type 0
IsDead m today n = OwnsDeath m n ⊎ (IsBuried m n ⊎ IsLongPast m today n)

-- ---- a person of whom none of these is known is living
abbrev pub IsPersonAt : Records → ℕ → Type 0
IsPersonAt m n = (p : model.Person) × (get m n ≡ Some (kind.Person p))

abbrev pub IsLiving : Records → ℤ → ℕ → Type 0
IsLiving m today n = IsPersonAt m n × (IsDead m today n → ⊥)
