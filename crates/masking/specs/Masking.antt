-- The masked state: what is shown of an archive. Rules of our own.
use Rattle.std.specs.Prelude.{
  ℕ,
  ◌≡◌,
  ◌↔◌,
  [],
  ◌∷◌,
  map,
  Bool,
  true,
  false,
  not,
  IsTrue,
  Option,
  Some,
  None,
  option_map,
  codes,
  ℤ,
}
use Rattle.std.specs.List.{list_any, filter}
use Rattle.std.specs.FinMap.{get, empty}
use Rattle.record_kinds.specs.Model as model
use Rattle.record_kinds.specs.declared.record.Record.{Record}
use Rattle.record_kinds.specs.declared.record.Record.TheVariants as kind
use Rattle.archive_state.specs.Content.{Content, Records}
use Rattle.masking.specs.Life.{IsLiving}
use Rattle.masking.specs.Closing.{IsOpen}

-- ---- the two judgements, as tests on numbers
pub record Judged : Type 0 where
  pub living : ℕ → Bool
  pub is_open : ℕ → Bool

-- the tests tell which persons of the archive are living, and which of its entries are open
pub record Judges (m : Records) (today : ℤ) (j : Judged) : Type 0 where
  pub living : (n : ℕ) → IsTrue (j.living n) ↔ IsLiving m today n
  pub opens : (n : ℕ) (e : model.Entry) → get m n ≡ Some (kind.Entry e) → IsTrue (j.is_open n) ↔ IsOpen m today e

-- what stands at each number
abbrev pub Looks : Type 0
Looks = ℕ → Option Record

-- ---- what is gone
-- whose events and citations are gone: a living person, and a family with a living partner
abbrev pub is_silent : (ℕ → Bool) → ℕ → Option Record → Bool
is_silent living n (Some (kind.Person p)) = living n
is_silent living n (Some (kind.Family x)) = list_any (λ (p : model.Partner). living p.person) x.partners
is_silent living n _ = false

-- a citation of these is gone, and one of an event of these
abbrev pub is_cited_silent : (ℕ → Bool) → Looks → ℕ → Option Record → Bool
is_cited_silent living look n (Some (kind.Event e)) = is_silent living e.owner (look e.owner)
is_cited_silent living look n found = is_silent living n found

-- events and citations of these, closed entries, and records of no other kind are gone
abbrev pub is_gone : Judged → Looks → ℕ → Record → Bool
is_gone j look n (kind.Event e) = is_silent j.living e.owner (look e.owner)
is_gone j look n (kind.Citation c) = is_cited_silent j.living look c.owner (look c.owner)
is_gone j look n (kind.Entry e) = not (j.is_open n)
is_gone j look n (kind.Other o) = true
is_gone j look n _ = false

-- ---- what is shown of a record that is not gone: all of it but the carried lines
abbrev pub shown_name : model.Name → model.Name
shown_name x = record x { carried = [] }

abbrev pub shown_holding : model.Holding → model.Holding
shown_holding h = record h { carried = [] }

abbrev pub shown_partner : model.Partner → model.Partner
shown_partner p = record p { carried = []; carried_by_person = [] }

abbrev pub shown_child : model.Child → model.Child
shown_child c = record c { carried = []; carried_by_person = [] }

abbrev pub shown_event_place : model.EventPlace → model.EventPlace
shown_event_place p = record p { carried = [] }

abbrev pub shown_participant : model.Participant → model.Participant
shown_participant p = record p { carried = [] }

abbrev pub shown_source : model.Source → model.Source
shown_source s = record s { holdings = map shown_holding s.holdings; carried = [] }

-- of a living person one name, and no more
abbrev pub a_living_person : model.Person
a_living_person = record { names = (record { text = codes "Living"; carried = [] }) ∷ []; sex = None; carried = [] }

abbrev pub shown_person : Bool → model.Person → model.Person
shown_person true p = a_living_person
shown_person false p = record p { names = map shown_name p.names; carried = [] }

-- the living keep their places in families
abbrev pub shown_family : model.Family → model.Family
shown_family x = record {
  partners = map shown_partner x.partners;
  children = map shown_child x.children;
  carried = [];
}

-- living participants are removed
abbrev pub shown_event : (ℕ → Bool) → model.Event → model.Event
shown_event living e = record e {
  place = option_map shown_event_place e.place;
  participants = map shown_participant (filter (λ (p : model.Participant). not (living p.person)) e.participants);
  carried = [];
}

abbrev pub shown_of : Judged → ℕ → Record → Record
shown_of j n (kind.Place p) = kind.Place (record p { carried = [] })
shown_of j n (kind.Repo r) = kind.Repo (record r { carried = [] })
shown_of j n (kind.Source s) = kind.Source (shown_source s)
shown_of j n (kind.Person p) = kind.Person (shown_person (j.living n) p)
shown_of j n (kind.Family x) = kind.Family (shown_family x)
shown_of j n (kind.Citation c) = kind.Citation (record c { carried = [] })
shown_of j n (kind.Event e) = kind.Event (shown_event j.living e)
shown_of j n (kind.Entry e) = kind.Entry e
shown_of j n (kind.Other o) = kind.Other o

-- ---- all records
abbrev pub unless : Bool → Record → Option Record
unless true r = None
unless false r = Some r

-- what is shown at a number; None: nothing
abbrev pub shown_at : Judged → Looks → ℕ → Option Record → Option Record
shown_at j look n None = None
shown_at j look n (Some r) = unless (is_gone j look n r) (shown_of j n r)

-- the masked state of an archive on a day: the next number stays, and no receipt and no slip is kept
pub record IsMasked (c : Content) (today : ℤ) (shown : Content) : Type 0 where
  pub judged : Judged
  pub judges : Judges c.records today judged
  pub records : (n : ℕ) → get shown.records n ≡ shown_at judged (get c.records) n (get c.records n)
  pub next : shown.next ≡ c.next
  pub receipts : shown.receipts ≡ empty
  pub slips : shown.slips ≡ empty
