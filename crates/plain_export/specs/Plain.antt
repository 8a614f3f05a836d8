-- The plain archive: what an archive is without what the standard has no words for. The plain export of an archive is
-- the export of its plain archive, so its header, the order of its records and their cross references are those of
-- any export (The GEDCOM Standard Release 5.5.1, chapter 2, LINEAGE_LINKED_GEDCOM). Rules of our own.
use Rattle.std.specs.Prelude.{
  ℕ,
  ◌≡◌,
  Bool,
  not,
  if◌then◌else◌,
  List,
  [],
  ◌∷◌,
  ◌++◌,
  map,
  codes,
  Option,
  Some,
  None,
  option_map,
}
use Rattle.std.specs.List.{filter}
use Rattle.std.specs.Str.{bytes_eq}
use Rattle.std.specs.FinMap.{get}
use Rattle.stored_lines.specs.Tree.{Tree, label}
use Rattle.stored_lines.specs.Line.{Line, Lines}
use Rattle.stored_lines.specs.declared.carried.Value.{Value}
use Rattle.stored_lines.specs.declared.carried.Value.TheVariants as value
use Rattle.record_fields.specs.declared.words.Sex.{Sex}
use Rattle.record_kinds.specs.Model as model
use Rattle.record_kinds.specs.declared.record.Record.{Record}
use Rattle.record_kinds.specs.declared.record.Record.TheVariants as kind
use Rattle.record_shapes.specs.Shapes.{Around, line, maybe}
use Rattle.archive_state.specs.Content.{Records}
use Rattle.gedcom_export.specs.Around.{around}
use Rattle.plain_export.specs.Added.{added, lines_of}
use Rattle.plain_export.specs.Allowed.{
  is_said,
  name_text,
  one_line,
  page_note,
  paired,
  short_page,
  value_after,
  value_note,
}
use Rattle.plain_export.specs.Kept.{is_left_out, kept, names_left_out}

-- ---- parts of records, each with the carried lines that are kept
abbrev pub plain_name : Records → model.Name → model.Name
plain_name m x = record { text = name_text x.text; carried = kept m x.carried }

-- a name of nothing is left out
abbrev pub plain_names : Records → List model.Name → List model.Name
plain_names m xs = map (plain_name m) (filter is_said xs)

abbrev pub plain_holding : Records → model.Holding → model.Holding
plain_holding m h = record h { call_number = option_map one_line h.call_number; carried = kept m h.carried }

abbrev pub plain_partner : Records → model.Partner → model.Partner
plain_partner m p = record p { carried = kept m p.carried; carried_by_person = kept m p.carried_by_person }

abbrev pub plain_partners : Records → List model.Partner → List model.Partner
plain_partners m ps = paired (map (plain_partner m) ps)

abbrev pub plain_child : Records → model.Child → model.Child
plain_child m c = record c { carried = kept m c.carried; carried_by_person = kept m c.carried_by_person }

-- the place of an event is its path, with what is carried there
abbrev pub place_line : Records → Around → model.EventPlace → Tree Line
place_line m a p = line (codes "PLAC") (value.Text (one_line (a.path p.place))) (kept m p.carried)

abbrev pub place_lines : Records → Around → Option model.EventPlace → Lines
place_lines m a o = maybe (option_map (place_line m a) o)

-- a person who has a sex carries no second one
abbrev pub is_sex : Tree Line → Bool
is_sex t = bytes_eq (label t).tag (codes "SEX")

abbrev pub without_second : Lines → Lines
without_second ts = filter (λ t. not (is_sex t)) ts

abbrev pub without_sex : Option Sex → Lines → Lines
without_sex None ts = ts
without_sex (Some s) ts = without_second ts

-- a pointer to what has no record is an empty text
abbrev pub plain_value : Records → Value → Value
plain_value m v = if names_left_out m v then value.Text [] else v

-- ---- records, with the lines that other records add
abbrev pub plain_repo : Records → model.Repo → model.Repo
plain_repo m r = record { name = option_map one_line r.name; carried = kept m r.carried }

abbrev pub plain_citation : Records → model.Citation → model.Citation
plain_citation m c = record c { page = short_page c.page; carried = page_note c.page ++ kept m c.carried }

abbrev pub plain_source : Records → Lines → model.Source → model.Source
plain_source m more s = record s { holdings = map (plain_holding m) s.holdings; carried = kept m s.carried ++ more }

abbrev pub plain_person : Records → Lines → model.Person → model.Person
plain_person m more p = record p {
  names = plain_names m p.names;
  carried = without_sex p.sex (kept m p.carried) ++ more;
}

abbrev pub plain_family : Records → model.Family → model.Family
plain_family m f = record {
  partners = plain_partners m f.partners;
  children = map (plain_child m) f.children;
  carried = kept m f.carried;
}

abbrev pub event_lines : Records → Around → Lines → model.Event → Lines
event_lines m a more e = place_lines m a e.place ++ (value_note e.tag e.value ++ (kept m e.carried ++ more))

abbrev pub plain_event : Records → Around → Lines → model.Event → model.Event
plain_event m a more e = record e {
  value = value_after e.tag e.value;
  place = None;
  participants = [];
  carried = event_lines m a more e;
}

abbrev pub plain_other : Records → model.Other → model.Other
plain_other m o = record o { value = plain_value m o.value; carried = kept m o.carried }

-- places and entries are left out, and need no other form
abbrev pub plain_of : Records → Around → Lines → Record → Record
plain_of m a more (kind.Place p) = kind.Place p
plain_of m a more (kind.Repo r) = kind.Repo (plain_repo m r)
plain_of m a more (kind.Source s) = kind.Source (plain_source m more s)
plain_of m a more (kind.Person p) = kind.Person (plain_person m more p)
plain_of m a more (kind.Family f) = kind.Family (plain_family m f)
plain_of m a more (kind.Citation c) = kind.Citation (plain_citation m c)
plain_of m a more (kind.Event e) = kind.Event (plain_event m a more e)
plain_of m a more (kind.Entry e) = kind.Entry e
plain_of m a more (kind.Other o) = kind.Other (plain_other m o)

-- ---- the archive
-- what stands at a number in it
abbrev pub plain_at : Records → Around → Lines → Option Record → Option Record
plain_at m a more None = None
plain_at m a more (Some r) = if is_left_out (Some r) then None else Some (plain_of m a more r)

-- what all records add to the record of a number
abbrev pub added_to : Records → ℕ → Lines
added_to m n = lines_of n (added m (around m))

-- something stands in a list
abbrev pub IsAmong : {A : Type 0} → A → List A → Type 0
IsAmong {A} x xs = (front : List A) × (back : List A) × (xs ≡ front ++ x ∷ back)

-- the plain archive of an archive
pub record IsPlain (m plain : Records) : Type 0 where
  pub records : (n : ℕ) → get plain n ≡ plain_at m (around m) (added_to m n) (get m n)
