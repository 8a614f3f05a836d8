-- The bytes of a command, of which a digest is kept under the token: rows of CSV (RFC 4180, section 2) as the default
-- writer writes them, and their SHA-256 (FIPS 180-4). A rule of our own.
use Rattle.std.specs.Prelude.{ℕ, List, [], ◌∷◌, ◌++◌, map, codes, Option, Some, None, decimal}
use Rattle.std.specs.List.{flat_map}
use Rattle.csv.specs.Writing.{default_writer, row_text}
use Rattle.sha2.specs.Sha256.{sha256}
use Rattle.record_fields.specs.Words.{entry_kind_word, partnership_word, quality_word, sex_word}
use Rattle.gedcom_tree.specs.Text.{text}
use Rattle.corrections.specs.Fields.{field_word}
use Rattle.corrections.specs.declared.field.Field.{Field}
use Rattle.corrections.specs.declared.field.Field.TheVariants as record_field
use Rattle.commands.specs.Given.{GivenDate}
use Rattle.commands.specs.Verbs.{verb_word}
use Rattle.commands.specs.declared.correction.GivenCorrection.{GivenCorrection}
use Rattle.commands.specs.declared.correction.GivenCorrection.TheVariants as correction
use Rattle.commands.specs.declared.correction.GivenValue.{GivenValue}
use Rattle.commands.specs.declared.correction.GivenValue.TheVariants as of_field
use Rattle.commands.specs.declared.entry_row.GivenMention.{GivenMention}
use Rattle.commands.specs.declared.entry_row.EntryRow.{EntryRow}
use Rattle.commands.specs.declared.command.Command.{Command}
use Rattle.commands.specs.declared.command.Command.TheVariants as command
use Rattle.commands.specs.declared.row_command.RowCommand.{RowCommand}
use Rattle.commands.specs.declared.row_command.RowCommand.TheVariants as row_command
use Rattle.commands.specs.declared.verb.Verb.TheVariants as verb

-- ---- fields that may be empty
abbrev pub or_empty : {A : Type 0} → (A → List ℕ) → Option A → List ℕ
or_empty text None = []
or_empty text (Some a) = text a

abbrev pub spelt : GivenDate → List ℕ
spelt given = given.spelling

-- role and name of each mention
abbrev pub mention_fields : List GivenMention → List (List ℕ)
mention_fields mentions = flat_map (λ (m : GivenMention). m.role ∷ m.name ∷ []) mentions

-- the fields of a register entry, its source apart
abbrev pub entry_fields : EntryRow → List (List ℕ)
entry_fields e =
    entry_kind_word e.kind ∷ e.page ∷ decimal e.item.number ∷ or_empty spelt e.date ∷ or_empty decimal e.place ∷ e.text
    ∷ mention_fields e.mentions

-- ---- corrections: the field, and the words of its value
abbrev pub value_field : GivenValue → Field
value_field (of_field.Sex s) = record_field.Sex
value_field (of_field.Date d) = record_field.Date
value_field (of_field.Place n) = record_field.Place
value_field (of_field.Repository n) = record_field.Repository
value_field (of_field.Quality q) = record_field.Quality
value_field (of_field.Item i) = record_field.Item
value_field (of_field.Text f words) = record_field.Text f

abbrev pub given_field : GivenCorrection → Field
given_field (correction.Tag words) = record_field.Tag
given_field (correction.Value v) = value_field v

abbrev pub value_words : GivenValue → List ℕ
value_words (of_field.Sex s) = or_empty sex_word s
value_words (of_field.Date d) = or_empty spelt d
value_words (of_field.Place n) = or_empty decimal n
value_words (of_field.Repository n) = or_empty decimal n
value_words (of_field.Quality q) = or_empty quality_word q
value_words (of_field.Item i) = decimal i.number
value_words (of_field.Text f words) = words

abbrev pub given_words : GivenCorrection → List ℕ
given_words (correction.Tag words) = words
given_words (correction.Value v) = value_words v

-- ---- rows
-- the verb and the fields, in the order of a row
abbrev pub row_of : RowCommand → List (List ℕ)
row_of (row_command.Person name sex) = verb_word verb.Person ∷ name ∷ or_empty sex_word sex ∷ []
row_of (row_command.Name person name) = verb_word verb.Name ∷ decimal person ∷ name ∷ []
row_of (row_command.Sex person sex) = verb_word verb.Sex ∷ decimal person ∷ sex_word sex ∷ []
row_of (row_command.Family husband wife) =
    verb_word verb.Family ∷ or_empty decimal husband ∷ or_empty decimal wife ∷ []
row_of (row_command.Child family person) = verb_word verb.Child ∷ decimal family ∷ decimal person ∷ []
row_of (row_command.Event owner tag value date place) =
    verb_word verb.Event ∷ decimal owner ∷ tag ∷ value ∷ or_empty spelt date ∷ or_empty decimal place ∷ []
row_of (row_command.Amend event value date place) =
    verb_word verb.Amend ∷ decimal event ∷ value ∷ or_empty spelt date ∷ or_empty decimal place ∷ []
row_of (row_command.Participant event person role) =
    verb_word verb.Participant ∷ decimal event ∷ decimal person ∷ role ∷ []
row_of (row_command.Place name parent) = verb_word verb.Place ∷ name ∷ or_empty decimal parent ∷ []
row_of (row_command.Repo name) = verb_word verb.Repo ∷ name ∷ []
row_of (row_command.Source title author publisher repo call_number) =
    verb_word verb.Source ∷ title ∷ author ∷ publisher ∷ or_empty decimal repo ∷ call_number ∷ []
row_of (row_command.Citation owner source page quality) =
    verb_word verb.Citation ∷ decimal owner ∷ decimal source ∷ page ∷ or_empty quality_word quality ∷ []
row_of (row_command.Entry source entry) = verb_word verb.Entry ∷ decimal source ∷ entry_fields entry
row_of (row_command.Link entry mention person reason) =
    verb_word verb.Link ∷ decimal entry ∷ decimal mention ∷ decimal person ∷ reason ∷ []
row_of (row_command.Unlink entry mention) = verb_word verb.Unlink ∷ decimal entry ∷ decimal mention ∷ []
row_of (row_command.Merge keep gone) = verb_word verb.Merge ∷ decimal keep ∷ decimal gone ∷ []
row_of (row_command.Undo slip) = verb_word verb.Undo ∷ decimal slip ∷ []
row_of (row_command.Remove number) = verb_word verb.Remove ∷ decimal number ∷ []
row_of (row_command.Partner family partnership person) =
    verb_word verb.Partner ∷ decimal family ∷ partnership_word partnership ∷ decimal person ∷ []
row_of (row_command.Unpartner family person) = verb_word verb.Unpartner ∷ decimal family ∷ decimal person ∷ []
row_of (row_command.Unchild family person) = verb_word verb.Unchild ∷ decimal family ∷ decimal person ∷ []
row_of (row_command.Unparticipant event place) = verb_word verb.Unparticipant ∷ decimal event ∷ decimal place ∷ []
row_of (row_command.Correct number given) =
    verb_word verb.Correct ∷ decimal number ∷ field_word (given_field given) ∷ given_words given ∷ []

-- ---- bytes
-- what the bytes of a command are written from: the fields of one row; the source of a batch of entries and the fields
-- of each of its rows; or the canonical text of the forest of an import
pub data Wording : Type 0 where
  Row : List (List ℕ) → Wording
  Batch : ℕ → List (List (List ℕ)) → Wording
  Import : List ℕ → Wording

-- a row as a row of CSV; a batch as `entries,`, its source, LF and each row; an import as `import`, LF and its text
abbrev pub written : Wording → List ℕ
written (Row fields) = row_text default_writer fields
written (Batch source rows) = codes "entries," ++ decimal source ++ 10 ∷ flat_map (row_text default_writer) rows
written (Import text) = codes "import" ++ 10 ∷ text

abbrev pub wording_of : Command → Wording
wording_of (command.Row c) = Row (row_of c)
wording_of (command.Entries source rows) = Batch source (map entry_fields rows)
wording_of (command.Import forest) = Import (text forest)

abbrev pub bytes_of : Command → List ℕ
bytes_of c = written (wording_of c)

abbrev pub digest_of : Command → List ℕ
digest_of c = sha256 (bytes_of c)
