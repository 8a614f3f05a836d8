-- What is read from a record's tree, each field by its word. No clause that callers see names these definitions.
use Rattle.std.specs.Prelude.{ℕ, List, [], ◌∷◌, map, Option, Some, None, bytes_eq, if◌then◌else◌, option_map, nat_le}
use Rattle.std.specs.List.{filter}
use Rattle.std.specs.Option.{unwrap_or}
use Rattle.stored_lines.specs.Tree.{Tree, label, children, list_of, forest_of, relabel}
use Rattle.stored_lines.specs.Levels.{forest_levels}
use Rattle.stored_lines.specs.Line.{Label, Lines, Branches, line_of}
use Rattle.record_kinds.specs.Model as model
use Rattle.records.specs.Stored.{word}
use Rattle.record_fields.specs.Words.{quality_of, sex_of, partnership_of, entry_kind_of, role_of}
use Rattle.record_fields.specs.Items.{first_item, item_of}
use Rattle.record_fields.specs.Dated.{date_from}
use Rattle.record_fields.specs.declared.words.Partnership.TheVariants as partnership
use Rattle.record_fields.specs.declared.entry_words.EntryKind.TheVariants as entry_kind
use Rattle.record_fields.specs.declared.entry_words.Role.TheVariants as role
use Rattle.stored_lines.specs.declared.carried.Value.TheVariants as value
use Rattle.records.specs.declared.field.Field.{Field}
use Rattle.records.specs.declared.field.Field.TheVariants as field
use Rattle.record_kinds.specs.declared.record.Record.{Record}
use Rattle.record_kinds.specs.declared.record.Record.TheVariants as kind

-- the lines right below a line
abbrev pub below : Tree Label → Branches
below t = list_of (children t)

abbrev pub tag_of : Tree Label → List ℕ
tag_of t = (label t).tag

-- the lines with the word of a field, and the first of them
abbrev pub under : Field → Branches → Branches
under f ts = filter (λ t. bytes_eq (tag_of t) (word f)) ts

abbrev pub first : Branches → Option (Tree Label)
first [] = None
first (t ∷ ts) = Some t

abbrev pub text_or_empty : Option (List ℕ) → List ℕ
text_or_empty None = []
text_or_empty (Some t) = t

abbrev pub number_or_0 : Option ℕ → ℕ
number_or_0 None = 0
number_or_0 (Some n) = n

-- the text of a line, the number on it
abbrev pub text_on : Tree Label → List ℕ
text_on t = text_or_empty (label t).text

abbrev pub number_on : Tree Label → ℕ
number_on t = number_or_0 (label t).target

-- the same of a line that may be missing
abbrev pub text_at : Option (Tree Label) → Option (List ℕ)
text_at None = None
text_at (Some t) = (label t).text

abbrev pub number_at : Option (Tree Label) → ℕ
number_at None = 0
number_at (Some t) = number_on t

abbrev pub below_all : Option (Tree Label) → Branches
below_all None = []
below_all (Some t) = below t

abbrev pub text_from : Field → Branches → Option (List ℕ)
text_from f ts = text_at (first (under f ts))

-- the value whose word a text is, where there is a text
abbrev pub read_by : {A : Type 0} → (List ℕ → Option A) → Option (List ℕ) → Option A
read_by of_text None = None
read_by of_text (Some text) = of_text text

-- the place on the line of a date
abbrev pub event_place_for : Option ℕ → Lines → Option model.EventPlace
event_place_for None cs = None
event_place_for (Some n) cs = Some (record { place = n; carried = cs })

-- the lines after the first one
abbrev pub rest : Branches → Branches
rest [] = []
rest (t ∷ ts) = ts

abbrev pub tag_or_event : Option (Tree Label) → List ℕ
tag_or_event None = word field.Event
tag_or_event (Some t) = tag_of t

abbrev pub link_from : Option ℕ → Option (List ℕ) → Option model.Link
link_from None reason = None
link_from (Some n) reason = Some (record { person = n; reason = text_or_empty reason })

abbrev pub mention_from : Tree Label → model.Mention
mention_from t = record {
  role = unwrap_or (read_by role_of (text_from field.Role (below t))) role.Child;
  name = text_on t;
  link = link_from (label t).target (text_from field.Reason (below t));
}

abbrev pub place_number : model.EventPlace → ℕ
place_number p = p.place

-- stored lines as carried ones: all of them, and only those that can be carried
abbrev pub all_lines : Branches → Lines
all_lines ts = map (relabel line_of) ts

abbrev pub shallow_lines : Branches → Lines
shallow_lines ts = if nat_le (forest_levels (forest_of ts)) 99 then all_lines ts else []

-- parts and records, by what their carried lines are read as
module _ (carried_from : Branches → Lines) where
  abbrev pub lines_from : Field → Branches → Lines
  lines_from f ts = carried_from (below_all (first (under f ts)))

  abbrev pub place_from : Tree Label → model.Place
  place_from t = record { name = text_on t; parent = (label t).target; carried = lines_from field.Carried (below t) }

  abbrev pub repo_from : Tree Label → model.Repo
  repo_from t = record { name = (label t).text; carried = lines_from field.Carried (below t) }

  abbrev pub holding_from : Tree Label → model.Holding
  holding_from t = record {
    repo = number_on t;
    call_number = (label t).text;
    carried = lines_from field.Carried (below t);
  }

  abbrev pub source_from : Tree Label → model.Source
  source_from t = record {
    title = (label t).text;
    author = text_from field.Author (below t);
    publisher = text_from field.Publisher (below t);
    holdings = map holding_from (under field.Holding (below t));
    carried = lines_from field.Carried (below t);
  }

  abbrev pub citation_from : Tree Label → model.Citation
  citation_from t = record {
    owner = number_on t;
    source = number_at (first (under field.Source (below t)));
    page = text_from field.Source (below t);
    quality = read_by quality_of (text_from field.Quality (below t));
    carried = lines_from field.Carried (below t);
  }

  abbrev pub name_from : Tree Label → model.Name
  name_from t = record { text = text_on t; carried = lines_from field.Carried (below t) }

  abbrev pub person_from : Tree Label → model.Person
  person_from t = record {
    names = map name_from (under field.Name (below t));
    sex = read_by sex_of (text_from field.Sex (below t));
    carried = lines_from field.Carried (below t);
  }

  abbrev pub partner_from : Tree Label → model.Partner
  partner_from t = record {
    partnership = unwrap_or (read_by partnership_of (label t).text) partnership.Husband;
    person = number_on t;
    carried = lines_from field.Carried (below t);
    carried_by_person = lines_from field.Side (below t);
  }

  abbrev pub child_from : Tree Label → model.Child
  child_from t = record {
    person = number_on t;
    carried = lines_from field.Carried (below t);
    carried_by_person = lines_from field.Side (below t);
  }

  abbrev pub family_from : Tree Label → model.Family
  family_from t = record {
    partners = map partner_from (under field.Partner (below t));
    children = map child_from (under field.Child (below t));
    carried = lines_from field.Carried (below t);
  }

  abbrev pub event_place_from : Option (Tree Label) → Option model.EventPlace
  event_place_from None = None
  event_place_from (Some t) = event_place_for (label t).target (lines_from field.Carried (below t))

  abbrev pub participant_from : Tree Label → model.Participant
  participant_from t = record { person = number_on t; role = text_on t; carried = lines_from field.Carried (below t) }

  abbrev pub event_from : Tree Label → model.Event
  event_from t = record {
    owner = number_on t;
    tag = tag_or_event (first (below t));
    value = text_or_empty (text_at (first (below t)));
    date = date_from (text_from field.Date (rest (below t)));
    place = event_place_from (first (under field.Date (rest (below t))));
    participants = map participant_from (under field.Participant (rest (below t)));
    carried = lines_from field.Carried (rest (below t));
  }

  abbrev pub entry_from : Tree Label → model.Entry
  entry_from t = record {
    source = number_at (first (under field.Key (below t)));
    kind = unwrap_or (read_by entry_kind_of (label t).text) entry_kind.Baptism;
    page = text_or_empty (text_from field.Page (below t));
    item = unwrap_or (read_by item_of (text_from field.Item (below t))) first_item;
    date = date_from (text_from field.Date (below t));
    place = option_map place_number (event_place_from (first (under field.Date (below t))));
    text = text_or_empty (text_from field.Text (below t));
    mentions = map mention_from (under field.Mention (below t));
  }

  abbrev pub other_on : Option (Tree Label) → model.Other
  other_on None = record { tag = word field.Other; value = value.Text []; carried = [] }
  other_on (Some t) = record {
    tag = (line_of (label t)).tag;
    value = (line_of (label t)).value;
    carried = carried_from (below t);
  }

  abbrev pub other_from : Tree Label → model.Other
  other_from t = other_on (first (below t))

  abbrev pub record_from : Tree Label → Option Record
  record_from t =
      if bytes_eq (tag_of t) (word field.Place) then Some (kind.Place (place_from t))
      else (if bytes_eq (tag_of t) (word field.Repo) then Some (kind.Repo (repo_from t))
      else (if bytes_eq (tag_of t) (word field.Source) then Some (kind.Source (source_from t))
      else (if bytes_eq (tag_of t) (word field.Person) then Some (kind.Person (person_from t))
      else (if bytes_eq (tag_of t) (word field.Family) then Some (kind.Family (family_from t))
      else (if bytes_eq (tag_of t) (word field.Citation) then Some (kind.Citation (citation_from t))
      else (if bytes_eq (tag_of t) (word field.Event) then Some (kind.Event (event_from t))
      else (if bytes_eq (tag_of t) (word field.Entry) then Some (kind.Entry (entry_from t))
      else (if bytes_eq (tag_of t) (word field.Other) then Some (kind.Other (other_from t)) else None))))))))
