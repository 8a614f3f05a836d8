-- The numbers in a record, each with what it has to name: GEDCOM 5.5.1, chapter 2, where each structure says what its
-- pointers point to.
use Rattle.std.specs.Prelude.{ℕ, List, [], ◌∷◌, ◌++◌, map, Option, Some, None, option_map, Bool, true, false, ◌==◌}
use Rattle.std.specs.List.{list_any, flat_map}
use Rattle.stored_lines.specs.Tree.{Tree, Forest, node, none, more}
use Rattle.stored_lines.specs.Line.{Line, Lines}
use Rattle.record_kinds.specs.Model as model
use Rattle.stored_lines.specs.declared.carried.Value.{Value}
use Rattle.stored_lines.specs.declared.carried.Value.TheVariants as value
use Rattle.record_kinds.specs.declared.record.Record.{Record}
use Rattle.record_kinds.specs.declared.record.Record.TheVariants as kind

-- what a number may have to name: a holder has events, and what is cited is what a citation speaks of
pub data Wanted : Type 0 where
  a_place a_repo a_source a_person a_holder a_cited at_level_0 : Wanted

abbrev pub is_wanted : Wanted → Record → Bool
is_wanted a_place (kind.Place p) = true
is_wanted a_repo (kind.Repo r) = true
is_wanted a_source (kind.Source s) = true
is_wanted a_person (kind.Person p) = true
is_wanted a_holder (kind.Person p) = true
is_wanted a_holder (kind.Family f) = true
is_wanted a_cited (kind.Person p) = true
is_wanted a_cited (kind.Family f) = true
is_wanted a_cited (kind.Event e) = true
is_wanted at_level_0 (kind.Place p) = true
is_wanted at_level_0 (kind.Repo r) = true
is_wanted at_level_0 (kind.Source s) = true
is_wanted at_level_0 (kind.Person p) = true
is_wanted at_level_0 (kind.Family f) = true
is_wanted at_level_0 (kind.Entry e) = true
is_wanted at_level_0 (kind.Other o) = true
is_wanted _ _ = false

-- a number, and what it has to name
abbrev pub Link : Type 0
Link = ℕ × Wanted

-- a number on a carried line names any record that is written at level 0
abbrev pub value_links : Value → List Link
value_links (value.Text t) = []
value_links (value.Ref n) = (n, at_level_0) ∷ []

abbrev mutual
  pub line_links : Tree Line → List Link
  line_links (node l ts) = value_links l.value ++ forest_links ts

  pub forest_links : Forest Line → List Link
  forest_links none = []
  forest_links (more t ts) = line_links t ++ forest_links ts

abbrev pub carried_links : Lines → List Link
carried_links ts = flat_map line_links ts

-- a field that may be missing
abbrev pub field_links : Wanted → Option ℕ → List Link
field_links w None = []
field_links w (Some n) = (n, w) ∷ []

abbrev pub place_links : model.Place → List Link
place_links p = field_links a_place p.parent ++ carried_links p.carried

abbrev pub repo_links : model.Repo → List Link
repo_links r = carried_links r.carried

abbrev pub holding_links : model.Holding → List Link
holding_links h = (h.repo, a_repo) ∷ carried_links h.carried

abbrev pub source_links : model.Source → List Link
source_links s = flat_map holding_links s.holdings ++ carried_links s.carried

abbrev pub name_links : model.Name → List Link
name_links n = carried_links n.carried

abbrev pub person_links : model.Person → List Link
person_links p = flat_map name_links p.names ++ carried_links p.carried

abbrev pub partner_links : model.Partner → List Link
partner_links p = (p.person, a_person) ∷ (carried_links p.carried ++ carried_links p.carried_by_person)

abbrev pub child_links : model.Child → List Link
child_links c = (c.person, a_person) ∷ (carried_links c.carried ++ carried_links c.carried_by_person)

abbrev pub family_links : model.Family → List Link
family_links f = flat_map partner_links f.partners ++ (flat_map child_links f.children ++ carried_links f.carried)

abbrev pub citation_links : model.Citation → List Link
citation_links c = (c.owner, a_cited) ∷ ((c.source, a_source) ∷ carried_links c.carried)

abbrev pub event_place_links : model.EventPlace → List Link
event_place_links p = (p.place, a_place) ∷ carried_links p.carried

abbrev pub place_line_links : Option model.EventPlace → List Link
place_line_links None = []
place_line_links (Some p) = event_place_links p

abbrev pub participant_links : model.Participant → List Link
participant_links p = (p.person, a_person) ∷ carried_links p.carried

abbrev pub event_links : model.Event → List Link
event_links e =
    (e.owner, a_holder) ∷ (place_line_links e.place
    ++ (flat_map participant_links e.participants ++ carried_links e.carried))

-- who a mention is of
abbrev pub mention_links : model.Mention → List Link
mention_links m = field_links a_person (option_map (λ (l : model.Link). l.person) m.link)

abbrev pub entry_links : model.Entry → List Link
entry_links e = (e.source, a_source) ∷ (field_links a_place e.place ++ flat_map mention_links e.mentions)

abbrev pub other_links : model.Other → List Link
other_links o = value_links o.value ++ carried_links o.carried

-- all numbers in a record, its own apart
abbrev pub links : Record → List Link
links (kind.Place p) = place_links p
links (kind.Repo r) = repo_links r
links (kind.Source s) = source_links s
links (kind.Person p) = person_links p
links (kind.Family f) = family_links f
links (kind.Citation c) = citation_links c
links (kind.Event e) = event_links e
links (kind.Entry e) = entry_links e
links (kind.Other o) = other_links o

abbrev pub names : Record → List ℕ
names r = map (λ l. l.0) (links r)

-- whether a number stands among links
abbrev pub is_among : ℕ → List Link → Bool
is_among n ls = list_any (λ l. l.0 == n) ls
