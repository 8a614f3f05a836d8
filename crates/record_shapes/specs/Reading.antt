-- The record that lines are read as (The GEDCOM Standard Release 5.5.1, chapter 2, record structures), with the events
-- and citations below it. A family has only its own side of the memberships. An event or a citation has no owner yet:
-- it is what it is below.
use Rattle.std.specs.Prelude.{
  ℕ,
  ◌&&◌,
  ◌==◌,
  not,
  Bool,
  true,
  false,
  List,
  [],
  ◌∷◌,
  ◌++◌,
  map,
  codes,
  Option,
  Some,
  None,
  option_map,
  bytes_eq,
  if◌then◌else◌,
}
use Rattle.std.specs.List.{filter, flat_map, list_any}
use Rattle.std.specs.Option.{unwrap_or}
use Rattle.stored_lines.specs.Tree.{Tree, node, none, forest_of, list_of}
use Rattle.stored_lines.specs.Line.{Line, Lines}
use Rattle.stored_lines.specs.declared.carried.Value.{Value}
use Rattle.record_kinds.specs.Model as model
use Rattle.record_kinds.specs.declared.record.Record.{Record}
use Rattle.record_kinds.specs.declared.record.Record.TheVariants as kind
use Rattle.record_fields.specs.Dated.{date_of, spelt}
use Rattle.record_fields.specs.declared.date.Date.{Date}
use Rattle.record_fields.specs.Words.{quality_of, sex_of}
use Rattle.record_fields.specs.declared.words.Partnership.{Partnership}
use Rattle.record_fields.specs.declared.words.Partnership.TheVariants as partnership
use Rattle.record_shapes.specs.Paths.{normal}
use Rattle.record_shapes.specs.Forms.{Known, below, is_childless, is_text, number_of, tag_of, tagged, text_of}
use Rattle.record_shapes.specs.Fields.{
  Field,
  a_call_number,
  a_citation,
  a_date,
  a_holding,
  a_member,
  a_name,
  a_page,
  a_parent,
  a_participant,
  a_place,
  a_publisher,
  a_quality,
  a_role,
  a_sex,
  a_title,
  an_author,
  an_event,
  citation_field,
  event_field,
  family_field,
  holding_field,
  is_same,
  parent_field,
  participant_field,
  path_below,
  person_field,
  place_field,
  repo_field,
  source_field,
}
use Rattle.record_shapes.specs.Picking.{all_of, first, left, text_at, without_first}
use Rattle.record_shapes.specs.Entries.{entry_of}

-- what is read: a record, or a place to be found or made by its path
pub data Draft : Type 0 where
  -- a record, and of an event the path of its place, where no line names that
  read : Record → Option (List ℕ) → Draft
  sought : List ℕ → Draft

-- what comes of a text that may be missing
abbrev pub read_by : {A : Type 0} → (List ℕ → Option A) → Option (List ℕ) → Option A
read_by of_text None = None
read_by of_text (Some text) = of_text text

-- the date that a text says, in its canonical spelling
abbrev pub dated : List ℕ → Option Date
dated text = date_of (spelt text)

abbrev pub repo_from : Lines → model.Repo
repo_from ts = record { name = text_at repo_field a_name ts; carried = left repo_field (a_name ∷ []) ts }

abbrev pub holding_from : Tree Line → model.Holding
holding_from t = record {
  repo = number_of t;
  call_number = text_at holding_field a_call_number (below t);
  carried = left holding_field (a_call_number ∷ []) (below t);
}

abbrev pub source_from : Known → Lines → model.Source
source_from known ts = record {
  title = text_at (source_field known) a_title ts;
  author = text_at (source_field known) an_author ts;
  publisher = text_at (source_field known) a_publisher ts;
  holdings = map holding_from (all_of (source_field known) a_holding ts);
  carried = left (source_field known) (a_title ∷ an_author ∷ a_publisher ∷ []) ts;
}

-- ---- places; known are those before it
abbrev pub place_name : Lines → List ℕ
place_name ts = normal (unwrap_or (text_at place_field a_name ts) [])

abbrev pub parent_line : Known → Lines → Option (Tree Line)
parent_line known ts = first (all_of (parent_field known (place_name ts)) a_parent ts)

abbrev pub place_from : Known → Lines → model.Place
place_from known ts = record {
  name = place_name ts;
  parent = option_map number_of (parent_line known ts);
  carried = left (parent_field known (place_name ts)) (a_parent ∷ []) (without_first place_field a_name ts);
}

abbrev pub path_on : Known → List ℕ → Option (Tree Line) → List ℕ
path_on known name None = name
path_on known name (Some t) = path_below name (unwrap_or (known.path (number_of t)) [])

abbrev pub path_from : Known → Lines → List ℕ
path_from known ts = path_on known (place_name ts) (parent_line known ts)

-- ---- citations and events
abbrev pub citation_from : Tree Line → model.Citation
citation_from t = record {
  owner = 0;
  source = number_of t;
  page = text_at citation_field a_page (below t);
  quality = read_by quality_of (text_at citation_field a_quality (below t));
  carried = left citation_field (a_page ∷ a_quality ∷ []) (below t);
}

abbrev pub citation_draft : Tree Line → Tree Draft
citation_draft t = node (read (kind.Citation (citation_from t)) None) none

abbrev pub participant_from : Tree Line → model.Participant
participant_from t = record {
  person = number_of t;
  role = unwrap_or (text_at participant_field a_role (below t)) [];
  carried = left participant_field (a_role ∷ []) (below t);
}

-- the line names a place that has the path
abbrev pub has_path : List ℕ → Option (List ℕ) → Bool
has_path path None = false
has_path path (Some p) = bytes_eq p path

abbrev pub is_loc : Known → List ℕ → Tree Line → Bool
is_loc known path t = tagged (codes "_LOC") t &&
    (is_childless t && (not (is_text t) && has_path path (known.path (number_of t))))

-- a list without its first of a kind
abbrev pub without : {A : Type 0} → (A → Bool) → List A → List A
without P [] = []
without P (a ∷ as_) = if P a then as_ else a ∷ without P as_

-- the place of a PLAC line: that of the first line that names one of its path; else there is none yet
abbrev pub place_named : Known → Tree Line → Option (Tree Line)
place_named known t = first (filter (is_loc known (normal (text_of t))) (below t))

abbrev pub event_place_with : Known → Tree Line → Option (Tree Line) → model.EventPlace
event_place_with known t None = record { place = 0; carried = below t }
event_place_with known t (Some loc) =
    record { place = number_of loc; carried = without (is_loc known (normal (text_of t))) (below t) }

abbrev pub event_place_from : Known → Tree Line → model.EventPlace
event_place_from known t = event_place_with known t (place_named known t)

-- the path by which the place is still to be found
abbrev pub unless_named : List ℕ → Option (Tree Line) → Option (List ℕ)
unless_named path None = Some path
unless_named path (Some loc) = None

abbrev pub sought_on : Known → Option (Tree Line) → Option (List ℕ)
sought_on known None = None
sought_on known (Some t) = unless_named (normal (text_of t)) (place_named known t)

abbrev pub event_from : Known → Tree Line → model.Event
event_from known t = record {
  owner = 0;
  tag = tag_of t;
  value = text_of t;
  date = read_by dated (text_at (event_field known) a_date (below t));
  place = option_map (event_place_from known) (first (all_of (event_field known) a_place (below t)));
  participants = map participant_from (all_of (event_field known) a_participant (below t));
  carried = left (event_field known) (a_date ∷ a_place ∷ []) (below t);
}

-- what is found or made at a line of an event: a citation, or the place of the event
abbrev pub sought_drafts : Option (List ℕ) → List (Tree Draft)
sought_drafts None = []
sought_drafts (Some path) = node (sought path) none ∷ []

abbrev pub below_event : Known → Bool → Lines → List (Tree Draft)
below_event known is_placed [] = []
below_event known is_placed (t ∷ ts) =
    if is_same (event_field known t) a_citation then citation_draft t ∷ below_event known is_placed ts
    else (if not is_placed && is_same (event_field known t) a_place
    then sought_drafts (sought_on known (Some t)) ++ below_event known true ts
    else below_event known is_placed ts)

abbrev pub event_draft : Known → Tree Line → Tree Draft
event_draft known t = node
    (read (kind.Event (event_from known t)) (sought_on known (first (all_of (event_field known) a_place (below t)))))
    (forest_of (below_event known false (below t)))

-- the draft of a line of a person or a family that is an event or a citation
abbrev pub draft_if : Known → Field → Tree Line → List (Tree Draft)
draft_if known an_event t = event_draft known t ∷ []
draft_if known a_citation t = citation_draft t ∷ []
draft_if known _ t = []

-- ---- persons and families
abbrev pub name_from : Tree Line → model.Name
name_from t = record { text = text_of t; carried = below t }

abbrev pub person_from : Known → Lines → model.Person
person_from known ts = record {
  names = map name_from (all_of (person_field known) a_name ts);
  sex = read_by sex_of (text_at (person_field known) a_sex ts);
  carried = left (person_field known) (a_sex ∷ []) ts;
}

-- the first line of each person
abbrev pub once_behind : List ℕ → Lines → Lines
once_behind seen [] = []
once_behind seen (t ∷ ts) = if list_any (λ n. n == number_of t) seen then once_behind seen ts else t ∷ once_behind
    (number_of t ∷ seen) ts

abbrev pub once : Lines → Lines
once ts = once_behind [] ts

abbrev pub is_child_line : Tree Line → Bool
is_child_line t = tagged (codes "CHIL") t

abbrev pub partnership_of_tag : List ℕ → Partnership
partnership_of_tag tag = if bytes_eq tag (codes "HUSB") then partnership.Husband else partnership.Wife

abbrev pub partner_from : Tree Line → model.Partner
partner_from t = record {
  partnership = partnership_of_tag (tag_of t);
  person = number_of t;
  carried = below t;
  carried_by_person = [];
}

abbrev pub child_from : Tree Line → model.Child
child_from t = record { person = number_of t; carried = below t; carried_by_person = [] }

abbrev pub member_lines : Known → Lines → Lines
member_lines known ts = once (all_of (family_field known) a_member ts)

abbrev pub family_from : Known → Lines → model.Family
family_from known ts = record {
  partners = map partner_from (filter (λ t. not (is_child_line t)) (member_lines known ts));
  children = map child_from (filter is_child_line (member_lines known ts));
  carried = left (family_field known) [] ts;
}

-- ---- all kinds
-- an entry, or else a record of no other kind
abbrev pub entry_or_other : List ℕ → Value → Lines → Option model.Entry → Record
entry_or_other tag v ts None = kind.Other (record { tag = tag; value = v; carried = ts })
entry_or_other tag v ts (Some e) = kind.Entry e

abbrev pub registered : Known → List ℕ → Value → Lines → Record
registered known tag v ts = entry_or_other tag v ts (if bytes_eq tag (codes "_REG") then entry_of known v ts else None)

-- what a line of level 0 with all below it is read as; earlier has the places before it, and known all records
abbrev pub draft_of : Known → Known → Tree Line → Tree Draft
draft_of earlier known (node l f) =
    let ts = list_of f in
    (if bytes_eq l.tag (codes "_LOC") then node (read (kind.Place (place_from earlier ts)) None) none
    else (if bytes_eq l.tag (codes "REPO") then node (read (kind.Repo (repo_from ts)) None) none
    else (if bytes_eq l.tag (codes "SOUR") then node (read (kind.Source (source_from known ts)) None) none
    else (if bytes_eq l.tag (codes "INDI") then node (read (kind.Person (person_from known ts)) None)
    (forest_of (flat_map (λ t. draft_if known (person_field known t) t) ts))
    else (if bytes_eq l.tag (codes "FAM") then node (read (kind.Family (family_from known ts)) None)
    (forest_of (flat_map (λ t. draft_if known (family_field known t) t) ts))
    else node (read (registered known l.tag l.value ts) None) none)))))
