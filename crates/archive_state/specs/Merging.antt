-- What a merge makes of records: in all of them one person's number becomes another's, and the two persons become one.
-- A rule of our own.
use Rattle.std.specs.Prelude.{
  ℕ,
  List,
  [],
  ◌∷◌,
  ◌++◌,
  map,
  Bool,
  false,
  not,
  ◌&&◌,
  ◌||◌,
  Option,
  Some,
  None,
  option_map,
  codes,
  ◌==◌,
  if◌then◌else◌,
}
use Rattle.std.specs.List.{list_any}
use Rattle.stored_lines.specs.Tree.{node, none, relabel}
use Rattle.stored_lines.specs.Line.{Line, Lines}
use Rattle.record_kinds.specs.Model as model
use Rattle.record_fields.specs.Words.{sex_word}
use Rattle.stored_lines.specs.declared.carried.Value.{Value}
use Rattle.stored_lines.specs.declared.carried.Value.TheVariants as value
use Rattle.record_fields.specs.declared.words.Sex.{Sex}
use Rattle.record_kinds.specs.declared.record.Record.{Record}
use Rattle.record_kinds.specs.declared.record.Record.TheVariants as kind

-- ---- a record with each number changed
abbrev pub value_with : (ℕ → ℕ) → Value → Value
value_with f (value.Text t) = value.Text t
value_with f (value.Ref n) = value.Ref (f n)

abbrev pub line_with : (ℕ → ℕ) → Line → Line
line_with f l = record { tag = l.tag; value = value_with f l.value }

abbrev pub lines_with : (ℕ → ℕ) → Lines → Lines
lines_with f ts = map (relabel (line_with f)) ts

abbrev pub holding_with : (ℕ → ℕ) → model.Holding → model.Holding
holding_with f h = record h { repo = f h.repo; carried = lines_with f h.carried }

abbrev pub name_with : (ℕ → ℕ) → model.Name → model.Name
name_with f n = record n { carried = lines_with f n.carried }

abbrev pub person_with : (ℕ → ℕ) → model.Person → model.Person
person_with f p = record p { names = map (name_with f) p.names; carried = lines_with f p.carried }

abbrev pub partner_with : (ℕ → ℕ) → model.Partner → model.Partner
partner_with f p = record p {
  person = f p.person;
  carried = lines_with f p.carried;
  carried_by_person = lines_with f p.carried_by_person;
}

abbrev pub child_with : (ℕ → ℕ) → model.Child → model.Child
child_with f c = record {
  person = f c.person;
  carried = lines_with f c.carried;
  carried_by_person = lines_with f c.carried_by_person;
}

abbrev pub family_with : (ℕ → ℕ) → model.Family → model.Family
family_with f x = record {
  partners = map (partner_with f) x.partners;
  children = map (child_with f) x.children;
  carried = lines_with f x.carried;
}

abbrev pub place_with : (ℕ → ℕ) → model.Place → model.Place
place_with f p = record p { parent = option_map f p.parent; carried = lines_with f p.carried }

abbrev pub source_with : (ℕ → ℕ) → model.Source → model.Source
source_with f s = record s { holdings = map (holding_with f) s.holdings; carried = lines_with f s.carried }

abbrev pub citation_with : (ℕ → ℕ) → model.Citation → model.Citation
citation_with f c = record c { owner = f c.owner; source = f c.source; carried = lines_with f c.carried }

abbrev pub event_place_with : (ℕ → ℕ) → model.EventPlace → model.EventPlace
event_place_with f p = record { place = f p.place; carried = lines_with f p.carried }

abbrev pub participant_with : (ℕ → ℕ) → model.Participant → model.Participant
participant_with f p = record p { person = f p.person; carried = lines_with f p.carried }

abbrev pub event_with : (ℕ → ℕ) → model.Event → model.Event
event_with f e = record e {
  owner = f e.owner;
  place = option_map (event_place_with f) e.place;
  participants = map (participant_with f) e.participants;
  carried = lines_with f e.carried;
}

abbrev pub link_with : (ℕ → ℕ) → model.Link → model.Link
link_with f l = record l { person = f l.person }

abbrev pub mention_with : (ℕ → ℕ) → model.Mention → model.Mention
mention_with f m = record m { link = option_map (link_with f) m.link }

abbrev pub entry_with : (ℕ → ℕ) → model.Entry → model.Entry
entry_with f e = record e {
  source = f e.source;
  place = option_map f e.place;
  mentions = map (mention_with f) e.mentions;
}

abbrev pub other_with : (ℕ → ℕ) → model.Other → model.Other
other_with f o = record o { value = value_with f o.value; carried = lines_with f o.carried }

abbrev pub record_with : (ℕ → ℕ) → Record → Record
record_with f (kind.Place p) = kind.Place (place_with f p)
record_with f (kind.Repo r) = kind.Repo (record r { carried = lines_with f r.carried })
record_with f (kind.Source s) = kind.Source (source_with f s)
record_with f (kind.Person p) = kind.Person (person_with f p)
record_with f (kind.Family x) = kind.Family (family_with f x)
record_with f (kind.Citation c) = kind.Citation (citation_with f c)
record_with f (kind.Event e) = kind.Event (event_with f e)
record_with f (kind.Entry e) = kind.Entry (entry_with f e)
record_with f (kind.Other o) = kind.Other (other_with f o)

-- ---- one of two
-- the sex of the other where there is none yet
abbrev pub sex_of_two : Option Sex → Option Sex → Option Sex
sex_of_two None g = g
sex_of_two (Some s) g = Some s

-- where both have a sex, the other's is carried
abbrev pub second_sex : Option Sex → Option Sex → Lines
second_sex (Some s) (Some t) = node (record { tag = codes "SEX"; value = value.Text (sex_word t) }) none ∷ []
second_sex _ _ = []

-- names and carried lines of the other are added after
abbrev pub joined_person : model.Person → model.Person → model.Person
joined_person k g = record {
  names = k.names ++ g.names;
  sex = sex_of_two k.sex g.sex;
  carried = k.carried ++ (g.carried ++ second_sex k.sex g.sex);
}

-- a child with the carried lines of another, on both sides
abbrev pub joined_child : model.Child → model.Child → model.Child
joined_child c d = record {
  person = c.person;
  carried = c.carried ++ d.carried;
  carried_by_person = c.carried_by_person ++ d.carried_by_person;
}

-- a child with the carried lines of each further child that is the same person
abbrev pub child_of_all : ℕ → model.Child → List model.Child → model.Child
child_of_all n c [] = c
child_of_all n c (d ∷ ds) =
    if d.person == n then child_of_all n (joined_child c d) ds else child_of_all n c ds

abbrev pub others : ℕ → List model.Child → List model.Child
others n [] = []
others n (d ∷ ds) = if d.person == n then others n ds else d ∷ others n ds

-- the first place stays
abbrev pub once_child : ℕ → List model.Child → List model.Child
once_child n [] = []
once_child n (c ∷ cs) = if c.person == n then child_of_all n c cs ∷ others n cs else c ∷ once_child n cs

abbrev pub once_in : ℕ → Record → Record
once_in n (kind.Family x) = kind.Family (record x { children = once_child n x.children })
once_in n r = r

-- ---- what cannot be merged
abbrev pub has_child : ℕ → model.Family → Bool
has_child n x = list_any (λ (c : model.Child). c.person == n) x.children

abbrev pub has_member : ℕ → model.Family → Bool
has_member n x = list_any (λ (p : model.Partner). p.person == n) x.partners || has_child n x

-- a family of both, but with both as its children
abbrev pub clashes : ℕ → ℕ → Record → Bool
clashes keep gone (kind.Family x) = (has_member keep x && has_member gone x) && not
    (has_child keep x && has_child gone x)
clashes keep gone _ = false

-- ---- all records
abbrev pub renamed : ℕ → ℕ → ℕ → ℕ
renamed keep gone n = if n == gone then keep else n

-- a record that is neither of the two persons
abbrev pub merged_record : ℕ → ℕ → Record → Record
merged_record keep gone r = once_in keep (record_with (renamed keep gone) r)

-- the person that stays, of what stands at the two numbers
abbrev pub merged_person : ℕ → ℕ → Option Record → Option Record → Option Record
merged_person keep gone (Some (kind.Person k)) (Some (kind.Person g)) =
    Some (kind.Person (joined_person (person_with (renamed keep gone) k) (person_with (renamed keep gone) g)))
merged_person keep gone k g = k

-- what stands at each number after the merge, of what stood at each before it
abbrev pub merged : ℕ → ℕ → (ℕ → Option Record) → ℕ → Option Record
merged keep gone before n =
    if n == gone then None
    else (if n == keep then merged_person keep gone (before keep) (before gone)
    else option_map (merged_record keep gone) (before n))
