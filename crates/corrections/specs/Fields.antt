-- The fields of records that a correction names, the word of each, and which a record has: rules of our own.
use Rattle.std.specs.Prelude.{
  ℕ,
  List,
  [],
  ◌∷◌,
  ◌++◌,
  Bool,
  true,
  false,
  nat_le,
  length,
  codes,
  decimal,
  Option,
}
use Rattle.record_fields.specs.Words.{found}
use Rattle.record_kinds.specs.declared.record.Record.{Record}
use Rattle.record_kinds.specs.declared.record.Record.TheVariants as kind
use Rattle.corrections.specs.declared.correction.Correction.{Correction}
use Rattle.corrections.specs.declared.correction.Correction.TheVariants as value
use Rattle.corrections.specs.declared.field.Field.{Field}
use Rattle.corrections.specs.declared.field.Field.TheVariants as field
use Rattle.corrections.specs.declared.field.TextField.{TextField}
use Rattle.corrections.specs.declared.field.TextField.TheVariants as text_field

-- the word of a field; one of a list ends with its place there, from 1
abbrev pub text_field_word : TextField → List ℕ
text_field_word text_field.Value = codes "value"
text_field_word text_field.Name = codes "name"
text_field_word text_field.Title = codes "title"
text_field_word text_field.Author = codes "author"
text_field_word text_field.Publisher = codes "publisher"
text_field_word text_field.CallNumber = codes "call number"
text_field_word text_field.Page = codes "page"
text_field_word text_field.Text = codes "text"
text_field_word (text_field.NameAt k) = codes "name " ++ decimal k.number
text_field_word (text_field.RoleAt k) = codes "role " ++ decimal k.number

abbrev pub field_word : Field → List ℕ
field_word field.Sex = codes "sex"
field_word field.Tag = codes "tag"
field_word field.Date = codes "date"
field_word field.Place = codes "place"
field_word field.Repository = codes "repository"
field_word field.Quality = codes "quality"
field_word field.Item = codes "item"
field_word (field.Text f) = text_field_word f

-- the fields without a place in a list, and that of a word
abbrev pub plain_fields : List Field
plain_fields =
    field.Sex ∷ field.Tag ∷ field.Date ∷ field.Place ∷ field.Repository ∷ field.Quality ∷ field.Item
    ∷ field.Text text_field.Value ∷ field.Text text_field.Name ∷ field.Text text_field.Title
    ∷ field.Text text_field.Author ∷ field.Text text_field.Publisher ∷ field.Text text_field.CallNumber
    ∷ field.Text text_field.Page ∷ field.Text text_field.Text ∷ []

abbrev pub plain_field_of : List ℕ → Option Field
plain_field_of word = found field_word plain_fields word

-- the field that a correction names
abbrev pub field_of : Correction → Field
field_of (value.Sex s) = field.Sex
field_of (value.Tag t) = field.Tag
field_of (value.Date d) = field.Date
field_of (value.Place n) = field.Place
field_of (value.Repository n) = field.Repository
field_of (value.Quality q) = field.Quality
field_of (value.Item i) = field.Item
field_of (value.Text f t) = field.Text f

-- ---- which fields a record has
-- a person of so many names
abbrev pub has_person_field : ℕ → Field → Bool
has_person_field names field.Sex = true
has_person_field names (field.Text (text_field.NameAt k)) = nat_le k.number names
has_person_field names _ = false

abbrev pub has_event_field : Field → Bool
has_event_field field.Tag = true
has_event_field field.Date = true
has_event_field field.Place = true
has_event_field (field.Text text_field.Value) = true
has_event_field _ = false

-- a place or a repository
abbrev pub has_named_field : Field → Bool
has_named_field (field.Text text_field.Name) = true
has_named_field _ = false

abbrev pub has_source_field : Field → Bool
has_source_field field.Repository = true
has_source_field (field.Text text_field.Title) = true
has_source_field (field.Text text_field.Author) = true
has_source_field (field.Text text_field.Publisher) = true
has_source_field (field.Text text_field.CallNumber) = true
has_source_field _ = false

abbrev pub has_citation_field : Field → Bool
has_citation_field field.Quality = true
has_citation_field (field.Text text_field.Page) = true
has_citation_field _ = false

-- an entry of so many mentions
abbrev pub has_entry_field : ℕ → Field → Bool
has_entry_field mentions field.Item = true
has_entry_field mentions field.Date = true
has_entry_field mentions field.Place = true
has_entry_field mentions (field.Text text_field.Page) = true
has_entry_field mentions (field.Text text_field.Text) = true
has_entry_field mentions (field.Text (text_field.NameAt k)) = nat_le k.number mentions
has_entry_field mentions (field.Text (text_field.RoleAt k)) = nat_le k.number mentions
has_entry_field mentions _ = false

-- families and records of no other kind have none
abbrev pub has_field : Record → Field → Bool
has_field (kind.Person p) f = has_person_field (length p.names) f
has_field (kind.Event e) f = has_event_field f
has_field (kind.Place p) f = has_named_field f
has_field (kind.Repo r) f = has_named_field f
has_field (kind.Source s) f = has_source_field f
has_field (kind.Citation c) f = has_citation_field f
has_field (kind.Entry e) f = has_entry_field (length e.mentions) f
has_field (kind.Family x) f = false
has_field (kind.Other o) f = false
