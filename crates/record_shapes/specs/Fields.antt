-- What a line may be in each part of a record: a row for each line of the standard's structures that we read (The
-- GEDCOM Standard Release 5.5.1, chapter 2). A line that no row takes is carried.
use Rattle.std.specs.Prelude.{
  ℕ,
  ◌&&◌,
  ◌||◌,
  ◌==◌,
  not,
  Bool,
  List,
  [],
  ◌∷◌,
  codes,
  Option,
  Some,
  None,
  false,
  if◌then◌else◌,
}
use Rattle.stored_lines.specs.Tree.{Tree}
use Rattle.stored_lines.specs.Line.{Line}
use Rattle.record_fields.specs.Words.{sex_of, quality_of}
pub use Rattle.record_shapes.specs.declared.field.Field.{Field}
use Rattle.record_shapes.specs.declared.field.Field.TheVariants as part
use Rattle.record_shapes.specs.Paths.{has_part, is_within_limits, joined, normal}
use Rattle.record_shapes.specs.Tags.{family_tags, person_tags}
use Rattle.record_shapes.specs.Forms.{
  Known,
  is_among,
  is_bare,
  is_childless,
  is_empty,
  is_some,
  is_text,
  names_a,
  number_of,
  tagged,
  text_of,
  value_of,
}

pattern abbrev pub a_name : Field
a_name = part.Name

pattern abbrev pub a_parent : Field
a_parent = part.Parent

pattern abbrev pub a_sex : Field
a_sex = part.Sex

pattern abbrev pub an_event : Field
an_event = part.Event

pattern abbrev pub a_side : Field
a_side = part.Side

pattern abbrev pub a_citation : Field
a_citation = part.Citation

pattern abbrev pub a_title : Field
a_title = part.Title

pattern abbrev pub an_author : Field
an_author = part.Author

pattern abbrev pub a_publisher : Field
a_publisher = part.Publisher

pattern abbrev pub a_holding : Field
a_holding = part.Holding

pattern abbrev pub a_call_number : Field
a_call_number = part.CallNumber

pattern abbrev pub a_member : Field
a_member = part.Member

pattern abbrev pub a_page : Field
a_page = part.Page

pattern abbrev pub a_quality : Field
a_quality = part.Quality

pattern abbrev pub a_date : Field
a_date = part.Date

pattern abbrev pub a_place : Field
a_place = part.Place

pattern abbrev pub a_participant : Field
a_participant = part.Participant

pattern abbrev pub a_role : Field
a_role = part.Role

pattern abbrev pub carried : Field
carried = part.Carried

-- fields are distinguished by numbers
abbrev pub field_number : Field → ℕ
field_number a_name = 1
field_number a_parent = 2
field_number a_sex = 3
field_number an_event = 4
field_number a_side = 5
field_number a_citation = 6
field_number a_title = 7
field_number an_author = 8
field_number a_publisher = 9
field_number a_holding = 10
field_number a_call_number = 11
field_number a_member = 12
field_number a_page = 13
field_number a_quality = 14
field_number a_date = 15
field_number a_place = 16
field_number a_participant = 17
field_number a_role = 18
field_number carried = 0

abbrev pub is_same : Field → Field → Bool
is_same x y = field_number x == field_number y

-- ---- the rows of each part: the first that fits
abbrev pub row : Bool → Field → Field → Field
row fits x otherwise = if fits then x else otherwise

-- below a repository (REPOSITORY_RECORD)
abbrev pub repo_field : Tree Line → Field
repo_field t = row (tagged (codes "NAME") t && is_bare t) a_name carried

-- below a pointer to a repository (SOURCE_REPOSITORY_CITATION)
abbrev pub holding_field : Tree Line → Field
holding_field t = row (tagged (codes "CALN") t && is_bare t) a_call_number carried

-- below a source (SOURCE_RECORD)
abbrev pub source_field : Known → Tree Line → Field
source_field known t =
    row (tagged (codes "TITL") t && is_bare t) a_title
    (row (tagged (codes "AUTH") t && is_bare t) an_author
    (row (tagged (codes "PUBL") t && is_bare t) a_publisher
    (row (tagged (codes "REPO") t && names_a (codes "REPO") known (value_of t)) a_holding carried)))

-- a pointer to a source, below a person, a family or an event
abbrev pub is_citation : Known → Tree Line → Bool
is_citation known t = tagged (codes "SOUR") t && names_a (codes "SOUR") known (value_of t)

-- below a citation (SOURCE_CITATION)
abbrev pub citation_field : Tree Line → Field
citation_field t =
    row (tagged (codes "PAGE") t && is_bare t) a_page
    (row (tagged (codes "QUAY") t && (is_bare t && is_some (quality_of (text_of t)))) a_quality carried)

-- below a person (INDIVIDUAL_RECORD)
abbrev pub person_field : Known → Tree Line → Field
person_field known t =
    row (tagged (codes "NAME") t && is_text t) a_name
    (row (tagged (codes "SEX") t && (is_bare t && is_some (sex_of (text_of t)))) a_sex
    (row (is_among person_tags t && is_text t) an_event
    (row ((tagged (codes "FAMC") t || tagged (codes "FAMS") t) && names_a (codes "FAM") known (value_of t)) a_side
    (row (is_citation known t) a_citation carried))))

-- below a family (FAM_RECORD)
abbrev pub family_field : Known → Tree Line → Field
family_field known t =
    row ((tagged (codes "HUSB") t ||
    (tagged (codes "WIFE") t || tagged (codes "CHIL") t)) && names_a (codes "INDI") known (value_of t)) a_member
    (row (is_among family_tags t && is_text t) an_event
    (row (is_citation known t) a_citation carried))

-- a text that, made normal, is a path with a part that is not empty
abbrev pub is_place_text : List ℕ → Bool
is_place_text t = is_within_limits (normal t) && has_part (normal t)

-- below an event (EVENT_DETAIL); who took part is a line of our own
abbrev pub event_field : Known → Tree Line → Field
event_field known t =
    row (tagged (codes "DATE") t && is_bare t) a_date
    (row (tagged (codes "PLAC") t && (is_text t && is_place_text (text_of t))) a_place
    (row (tagged (codes "_PART") t && names_a (codes "INDI") known (value_of t)) a_participant
    (row (is_citation known t) a_citation carried)))

-- below a line that names who took part: ours
abbrev pub participant_field : Tree Line → Field
participant_field t = row (tagged (codes "_ROLE") t && (is_bare t && not (is_empty (text_of t)))) a_role carried

-- the path of a place below another
abbrev pub path_below : List ℕ → List ℕ → List ℕ
path_below name above = joined (name ∷ above ∷ [])

-- a place whose path is known may be above one of that name, where the path of the two is within the limits
abbrev pub is_above : List ℕ → Option (List ℕ) → Bool
is_above called None = false
is_above called (Some path) = is_within_limits (path_below called path)

-- below a place, the line that names the place above it: ours. Known are only the paths of the places before it, so
-- that it is not above itself
abbrev pub parent_field : Known → List ℕ → Tree Line → Field
parent_field known name t =
    row (tagged (codes "_LOC") t && (is_childless t && (not (is_text t) && is_above name (known.path (number_of t)))))
    a_parent carried

-- below a place, the line of its name: ours. The text is made normal before the limits are looked at
abbrev pub place_field : Tree Line → Field
place_field t = row (tagged (codes "NAME") t && (is_bare t && is_within_limits (normal (text_of t)))) a_name carried
