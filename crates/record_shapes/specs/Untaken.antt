-- Carried lines that no field of their part, read before them, would take. Of a field that a record has once a further
-- line is carried where the record has the field; a line of a field that it may have often is never carried.
use Rattle.std.specs.Prelude.{◌≡◌, not, Bool, true, false}
use Rattle.std.specs.List.{list_all}
use Rattle.stored_lines.specs.Tree.{Tree}
use Rattle.stored_lines.specs.Line.{Line, Lines}
use Rattle.record_kinds.specs.Model as model
use Rattle.record_kinds.specs.declared.record.Record.{Record}
use Rattle.record_kinds.specs.declared.record.Record.TheVariants as kind
use Rattle.record_shapes.specs.Lists.{EachOf}
use Rattle.record_shapes.specs.Forms.{Known, is_empty, is_some}
use Rattle.record_shapes.specs.Fields.{
  Field,
  a_call_number,
  a_date,
  a_name,
  a_page,
  a_parent,
  a_place,
  a_publisher,
  a_quality,
  a_role,
  a_sex,
  a_title,
  an_author,
  carried,
  citation_field,
  event_field,
  family_field,
  holding_field,
  parent_field,
  participant_field,
  person_field,
  repo_field,
  source_field,
}

-- each line is of a field that leaves it
abbrev pub AreUntaken : (Tree Line → Field) → (Field → Bool) → Lines → Type 0
AreUntaken field leaves ts = list_all (λ t. leaves (field t)) ts ≡ true

-- ---- the fields that leave a line, in each part of a record
abbrev pub repo_leaves : model.Repo → Field → Bool
repo_leaves r carried = true
repo_leaves r a_name = is_some r.name
repo_leaves r _ = false

abbrev pub holding_leaves : model.Holding → Field → Bool
holding_leaves h carried = true
holding_leaves h a_call_number = is_some h.call_number
holding_leaves h _ = false

abbrev pub source_leaves : model.Source → Field → Bool
source_leaves s carried = true
source_leaves s a_title = is_some s.title
source_leaves s an_author = is_some s.author
source_leaves s a_publisher = is_some s.publisher
source_leaves s _ = false

abbrev pub citation_leaves : model.Citation → Field → Bool
citation_leaves c carried = true
citation_leaves c a_page = is_some c.page
citation_leaves c a_quality = is_some c.quality
citation_leaves c _ = false

abbrev pub person_leaves : model.Person → Field → Bool
person_leaves p carried = true
person_leaves p a_sex = is_some p.sex
person_leaves p _ = false

abbrev pub family_leaves : Field → Bool
family_leaves carried = true
family_leaves _ = false

abbrev pub event_leaves : model.Event → Field → Bool
event_leaves e carried = true
event_leaves e a_date = is_some e.date
event_leaves e a_place = is_some e.place
event_leaves e _ = false

abbrev pub place_leaves : model.Place → Field → Bool
place_leaves p carried = true
place_leaves p a_parent = is_some p.parent
place_leaves p _ = false

abbrev pub participant_leaves : model.Participant → Field → Bool
participant_leaves p carried = true
participant_leaves p a_role = not (is_empty p.role)
participant_leaves p _ = false

-- ---- of a record, the carried lines of each part; earlier has the places before it, and known all records. What is
-- carried below a name, a member or the line of a place no field would take
abbrev pub HasUntaken : Known → Known → Record → Type 0
HasUntaken earlier known (kind.Place p) = AreUntaken (parent_field earlier p.name) (place_leaves p) p.carried
HasUntaken earlier known (kind.Repo r) = AreUntaken repo_field (repo_leaves r) r.carried
HasUntaken earlier known (kind.Source s) =
    EachOf (λ (h : model.Holding). AreUntaken holding_field (holding_leaves h) h.carried) s.holdings
    × AreUntaken (source_field known) (source_leaves s) s.carried
HasUntaken earlier known (kind.Person p) = AreUntaken (person_field known) (person_leaves p) p.carried
HasUntaken earlier known (kind.Family f) = AreUntaken (family_field known) (λ x. family_leaves x) f.carried
HasUntaken earlier known (kind.Citation c) = AreUntaken citation_field (citation_leaves c) c.carried
HasUntaken earlier known (kind.Event e) =
    EachOf (λ (p : model.Participant). AreUntaken participant_field (participant_leaves p) p.carried) e.participants
    × AreUntaken (event_field known) (event_leaves e) e.carried
HasUntaken earlier known (kind.Entry e) = Unit {0}
HasUntaken earlier known (kind.Other o) = Unit {0}
