-- Which event a mention in a register entry is of, and so where the entry is cited. Rules of our own.
use Rattle.std.specs.Prelude.{
  ℕ,
  ◌≡◌,
  if◌then◌else◌,
  List,
  [],
  ◌∷◌,
  ◌++◌,
  map,
  bytes_eq,
  codes,
  decimal,
  Option,
  Some,
  None,
}
use Rattle.std.specs.List.{flat_map}
use Rattle.std.specs.Option.{unwrap_or}
use Rattle.std.specs.FinMap.{get, keys}
use Rattle.record_fields.specs.declared.date.Date.{Date}
use Rattle.record_fields.specs.declared.entry_words.Role.{Role}
use Rattle.record_fields.specs.declared.entry_words.Role.TheVariants as role
use Rattle.record_kinds.specs.Model as model
use Rattle.record_kinds.specs.declared.record.Record.{Record}
use Rattle.record_kinds.specs.declared.record.Record.TheVariants as kind
use Rattle.archive_state.specs.Content.{Records}
use Rattle.plain_export.specs.Words.{date_words}

-- ---- keys
-- a person and a tag in one text; neither has a space
abbrev pub tag_key : ℕ → List ℕ → List ℕ
tag_key person tag = decimal person ++ (codes " " ++ tag)

-- the same with a date
abbrev pub date_key : ℕ → List ℕ → Option Date → List ℕ
date_key person tag date = tag_key person tag ++ (codes " " ++ date_words date)

-- whose event it is: a person's own, and that of each partner of a family
abbrev pub persons_of : ℕ → Option Record → List ℕ
persons_of n (Some (kind.Person p)) = n ∷ []
persons_of n (Some (kind.Family f)) = map (λ (p : model.Partner). p.person) f.partners
persons_of n _ = []

-- a key and the number of an event
abbrev pub Mark : Type 0
Mark = List ℕ × ℕ

-- an event is found by its date, and without it
abbrev pub marks_of : ℕ → model.Event → ℕ → List Mark
marks_of n e person = (date_key person e.tag e.date, n) ∷ (tag_key person e.tag, n) ∷ []

abbrev pub marks_by : Records → ℕ → Option Record → List Mark
marks_by m n (Some (kind.Event e)) = flat_map (marks_of n e) (persons_of e.owner (get m e.owner))
marks_by m n _ = []

abbrev pub marks_at : Records → ℕ → List Mark
marks_at m n = marks_by m n (get m n)

-- those of all events, by number
abbrev pub marks : Records → List Mark
marks m = flat_map (marks_at m) (keys m)

-- ---- the first event
-- the first number under a key
abbrev pub first_under : List Mark → List ℕ → Option ℕ
first_under [] key = None
first_under (x ∷ xs) key = if bytes_eq x.0 key then Some x.1 else first_under xs key

-- the numbers of events by their keys
abbrev pub Firsts : Type 0
Firsts = List ℕ → Option ℕ

abbrev pub firsts : Records → Firsts
firsts m = first_under (marks m)

-- the first, or where there is none the other
abbrev pub or_else : Option ℕ → Option ℕ → Option ℕ
or_else None b = b
or_else (Some n) b = Some n

-- a person's event of a tag: the first of that date, or where there is none the first of all
abbrev pub event_with : Firsts → ℕ → Option Date → List ℕ → Option ℕ
event_with f person date tag = or_else (f (date_key person tag date)) (f (tag_key person tag))

-- of a child the baptism, or else the christening; of who is buried the burial; of groom and bride the marriage
abbrev pub event_for : Firsts → ℕ → Option Date → Role → Option ℕ
event_for f person date role.Child =
    or_else (event_with f person date (codes "BAPM")) (event_with f person date (codes "CHR"))
event_for f person date role.Buried = event_with f person date (codes "BURI")
event_for f person date role.Groom = event_with f person date (codes "MARR")
event_for f person date role.Bride = event_with f person date (codes "MARR")
event_for f person date _ = None

-- an entry is cited by that event of a person, or where there is none by the person
abbrev pub cited_by : Firsts → Option Date → Role → model.Link → ℕ
cited_by f date r l = unwrap_or (event_for f l.person date r) l.person

-- what becomes of the marks under each key where more are added
abbrev pub Adds : Firsts → Firsts → List Mark → Type 0
Adds old new ms = (key : List ℕ) → new key ≡ or_else (old key) (first_under ms key)
