-- How a row of a request is read as a command: its verb and its fields, without the token. A rule of our own.
use Rattle.std.specs.Prelude.{
  ◌≡◌,
  ℕ,
  List,
  [],
  ◌∷◌,
  length,
  Bool,
  true,
  false,
  ◌&&◌,
  nat_le,
  Option,
  Some,
  None,
  option_map,
  Result,
  Ok,
  Err,
  if◌then◌else◌,
}
use Rattle.std.specs.Char.{is_ascii_digit}
use Rattle.std.specs.List.{list_all}
use Rattle.std.specs.Str.Parse.{digits_value}
use Rattle.record_text.specs.declared.refusal.RefusalKind.{RefusalKind}
use Rattle.record_text.specs.declared.refusal.RefusalKind.TheVariants.{OutOfMemory, BadRow, UnknownVerb, FieldCount}
use Rattle.record_fields.specs.Words.{entry_kind_of, partnership_of, quality_of, sex_of}
use Rattle.record_fields.specs.declared.entry_words.EntryKind.{EntryKind}
use Rattle.record_fields.specs.declared.item.Item.{Item}
use Rattle.record_fields.specs.declared.words.Partnership.{Partnership}
use Rattle.record_fields.specs.declared.words.Quality.{Quality}
use Rattle.record_fields.specs.declared.words.Sex.{Sex}
use Rattle.corrections.specs.declared.field.Field.{Field}
use Rattle.corrections.specs.declared.field.Field.TheVariants as record_field
use Rattle.commands.specs.FieldWords.{field_of}
use Rattle.commands.specs.Given.{GivenDate, Gives}
use Rattle.commands.specs.Items.{item_at}
use Rattle.commands.specs.Mentions.{is_count}
use Rattle.commands.specs.Verbs.{verb_of}
use Rattle.commands.specs.declared.correction.GivenCorrection.{GivenCorrection}
use Rattle.commands.specs.declared.correction.GivenCorrection.TheVariants as correction
use Rattle.commands.specs.declared.correction.GivenValue.TheVariants as of_field
use Rattle.commands.specs.declared.entry_row.EntryRow.{EntryRow}
use Rattle.commands.specs.declared.entry_row.GivenMention.{GivenMention}
use Rattle.commands.specs.declared.row_command.RowCommand.{RowCommand}
use Rattle.commands.specs.declared.row_command.RowCommand.TheVariants as row_command
use Rattle.commands.specs.declared.verb.Verb.{Verb}
use Rattle.commands.specs.declared.verb.Verb.TheVariants as verb

-- one step after another: the first refusal counts
abbrev pub and_then : {A B : Type 0} → Result A RefusalKind → (A → Result B RefusalKind) → Result B RefusalKind
and_then (Ok a) f = f a
and_then (Err e) f = Err e

-- what is there, or a refusal
abbrev pub ok_or : {A : Type 0} → RefusalKind → Option A → Result A RefusalKind
ok_or k None = Err k
ok_or k (Some a) = Ok a

-- ---- fields
-- 1 to 10 digits, of value 1 to 4,294,967,295; the first may be zeros
abbrev pub is_number : List ℕ → Bool
is_number field =
    list_all is_ascii_digit field && nat_le 1 (length field) && nat_le (length field) 10
    && nat_le 1 (digits_value 10 field) && nat_le (digits_value 10 field) 4294967295

unfoldable pub number_in : List ℕ → Result ℕ RefusalKind
number_in field = if is_number field then Ok (digits_value 10 field) else Err BadRow

-- the letter M, F or U
unfoldable pub sex_in : List ℕ → Result Sex RefusalKind
sex_in field = ok_or BadRow (sex_of field)

-- the digit 0, 1, 2 or 3
unfoldable pub quality_in : List ℕ → Result Quality RefusalKind
quality_in field = ok_or BadRow (quality_of field)

-- the word husband or wife
unfoldable pub partnership_in : List ℕ → Result Partnership RefusalKind
partnership_in field = ok_or BadRow (partnership_of field)

-- the word BAPTISM, MARRIAGE or BURIAL
unfoldable pub kind_in : List ℕ → Result EntryKind RefusalKind
kind_in field = ok_or BadRow (entry_kind_of field)

-- a number from 1 to 999,999
unfoldable pub item_in : List ℕ → Result Item RefusalKind
item_in field = and_then (number_in field) (λ n. ok_or BadRow (item_at n))

-- an empty field is none
abbrev pub or_none : {A : Type 0} → (List ℕ → Result A RefusalKind) → List ℕ → Result (Option A) RefusalKind
or_none read [] = Ok None
or_none read (b ∷ more) = and_then (read (b ∷ more)) (λ a. Ok (Some a))

-- ---- corrections
-- the field of its word
unfoldable pub field_in : List ℕ → Result Field RefusalKind
field_in word = ok_or BadRow (field_of word)

-- the value, as the field has it; an empty one of these takes the field away, but an item is no empty one
abbrev pub given_in : (List ℕ → Option GivenDate) → Field → List ℕ → Result GivenCorrection RefusalKind
given_in given record_field.Tag words = Ok (correction.Tag words)
given_in given record_field.Sex words = and_then (or_none sex_in words) (λ s. Ok (correction.Value (of_field.Sex s)))
given_in given record_field.Date words = Ok (correction.Value (of_field.Date (given words)))
given_in given record_field.Place words =
    and_then (or_none number_in words) (λ n. Ok (correction.Value (of_field.Place n)))
given_in given record_field.Repository words =
    and_then (or_none number_in words) (λ n. Ok (correction.Value (of_field.Repository n)))
given_in given record_field.Quality words =
    and_then (or_none quality_in words) (λ q. Ok (correction.Value (of_field.Quality q)))
given_in given record_field.Item words = and_then (item_in words) (λ i. Ok (correction.Value (of_field.Item i)))
given_in given (record_field.Text f) words = Ok (correction.Value (of_field.Text f words))

-- ---- mentions
-- a role and a name for each
abbrev pub pairs : List (List ℕ) → Option (List GivenMention)
pairs [] = Some []
pairs (role ∷ []) = None
pairs (role ∷ name ∷ more) = option_map (λ ms. record { role = role; name = name } ∷ ms) (pairs more)

-- 1 to 100 of them
abbrev pub counted : List GivenMention → Result (List GivenMention) RefusalKind
counted ms = if is_count ms then Ok ms else Err FieldCount

abbrev pub mentions_in : List (List ℕ) → Result (List GivenMention) RefusalKind
mentions_in fields = and_then (ok_or FieldCount (pairs fields)) counted

-- ---- rows
-- a register entry, its source apart: the count of the fields is judged before them
abbrev pub read_entry : (List ℕ → Option GivenDate) → List (List ℕ) → Result EntryRow RefusalKind
read_entry given (kind ∷ page ∷ item ∷ date ∷ place ∷ text ∷ fields) =
    and_then (mentions_in fields) (λ ms.
    and_then (kind_in kind) (λ k.
    and_then (item_in item) (λ i.
    and_then (or_none number_in place) (λ p.
    Ok (record { kind = k; page = page; item = i; date = given date; place = p; text = text; mentions = ms })))))
read_entry given _ = Err FieldCount

-- the fields of each verb in their order; names, tags, values, roles, titles, authors, publishers, call numbers, pages,
-- texts and reasons are any words, and so are dates
abbrev pub read_fields : (List ℕ → Option GivenDate) → Verb → List (List ℕ) → Result RowCommand RefusalKind
read_fields given verb.Person (name ∷ sex ∷ []) = and_then (or_none sex_in sex) (λ s. Ok (row_command.Person name s))
read_fields given verb.Name (person ∷ name ∷ []) = and_then (number_in person) (λ p. Ok (row_command.Name p name))
read_fields given verb.Sex (person ∷ sex ∷ []) =
    and_then (number_in person) (λ p. and_then (sex_in sex) (λ s. Ok (row_command.Sex p s)))
read_fields given verb.Family (husband ∷ wife ∷ []) =
    and_then (or_none number_in husband) (λ h. and_then (or_none number_in wife) (λ w. Ok (row_command.Family h w)))
read_fields given verb.Child (family ∷ person ∷ []) =
    and_then (number_in family) (λ f. and_then (number_in person) (λ p. Ok (row_command.Child f p)))
read_fields given verb.Event (owner ∷ tag ∷ value ∷ date ∷ place ∷ []) =
    and_then (number_in owner)
    (λ o. and_then (or_none number_in place) (λ p. Ok (row_command.Event o tag value (given date) p)))
read_fields given verb.Amend (event ∷ value ∷ date ∷ place ∷ []) =
    and_then (number_in event)
    (λ e. and_then (or_none number_in place) (λ p. Ok (row_command.Amend e value (given date) p)))
read_fields given verb.Participant (event ∷ person ∷ role ∷ []) =
    and_then (number_in event) (λ e. and_then (number_in person) (λ p. Ok (row_command.Participant e p role)))
read_fields given verb.Place (name ∷ parent ∷ []) =
    and_then (or_none number_in parent) (λ p. Ok (row_command.Place name p))
read_fields given verb.Repo (name ∷ []) = Ok (row_command.Repo name)
read_fields given verb.Source (title ∷ author ∷ publisher ∷ repo ∷ call_number ∷ []) =
    and_then (or_none number_in repo) (λ r. Ok (row_command.Source title author publisher r call_number))
read_fields given verb.Citation (owner ∷ source ∷ page ∷ quality ∷ []) =
    and_then (number_in owner) (λ o. and_then (number_in source) (λ s.
    and_then (or_none quality_in quality) (λ q. Ok (row_command.Citation o s page q))))
read_fields given verb.Entry (source ∷ fields) =
    and_then (read_entry given fields) (λ e. and_then (number_in source) (λ s. Ok (row_command.Entry s e)))
read_fields given verb.Link (entry ∷ mention ∷ person ∷ reason ∷ []) =
    and_then (number_in entry) (λ e. and_then (number_in mention) (λ m. and_then (number_in person) (λ p.
    Ok (row_command.Link e m p reason))))
read_fields given verb.Unlink (entry ∷ mention ∷ []) =
    and_then (number_in entry) (λ e. and_then (number_in mention) (λ m. Ok (row_command.Unlink e m)))
read_fields given verb.Merge (keep ∷ gone ∷ []) =
    and_then (number_in keep) (λ k. and_then (number_in gone) (λ g. Ok (row_command.Merge k g)))
read_fields given verb.Undo (slip ∷ []) = and_then (number_in slip) (λ s. Ok (row_command.Undo s))
read_fields given verb.Remove (number ∷ []) = and_then (number_in number) (λ n. Ok (row_command.Remove n))
read_fields given verb.Partner (family ∷ role ∷ person ∷ []) =
    and_then (number_in family) (λ f. and_then (partnership_in role) (λ r. and_then (number_in person) (λ p.
    Ok (row_command.Partner f r p))))
read_fields given verb.Unpartner (family ∷ person ∷ []) =
    and_then (number_in family) (λ f. and_then (number_in person) (λ p. Ok (row_command.Unpartner f p)))
read_fields given verb.Unchild (family ∷ person ∷ []) =
    and_then (number_in family) (λ f. and_then (number_in person) (λ p. Ok (row_command.Unchild f p)))
read_fields given verb.Unparticipant (event ∷ place ∷ []) =
    and_then (number_in event) (λ e. and_then (number_in place) (λ k. Ok (row_command.Unparticipant e k)))
read_fields given verb.Correct (number ∷ word ∷ words ∷ []) =
    and_then (number_in number) (λ n. and_then (field_in word) (λ f. and_then (given_in given f words) (λ g.
    Ok (row_command.Correct n g))))
read_fields given _ _ = Err FieldCount

-- the verb first
abbrev pub read_row : (List ℕ → Option GivenDate) → List (List ℕ) → Result RowCommand RefusalKind
read_row given [] = Err UnknownVerb
read_row given (word ∷ fields) = and_then (ok_or UnknownVerb (verb_of word)) (λ v. read_fields given v fields)

-- the row is read as this command, or refused so, where each date is what its words give
abbrev pub Reads : List (List ℕ) → Result RowCommand RefusalKind → Type 0
Reads row outcome =
    (given : List ℕ → Option GivenDate) × ((words : List ℕ) → Gives words (given words))
    × (outcome ≡ read_row given row)

-- the same of a row of a batch, which is a register entry without its source
abbrev pub ReadsEntry : List (List ℕ) → Result EntryRow RefusalKind → Type 0
ReadsEntry row outcome =
    (given : List ℕ → Option GivenDate) × ((words : List ℕ) → Gives words (given words))
    × (outcome ≡ read_entry given row)

-- ---- out of memory
abbrev pub is_want : RefusalKind → Bool
is_want OutOfMemory = true
is_want _ = false

-- an outcome of which P holds; out of memory may come in place of any
abbrev pub Decided : {A : Type 0} → Result A RefusalKind → (Result A RefusalKind → Type 0) → Type 0
Decided (Ok a) P = P (Ok a)
Decided (Err e) P = is_want e ≡ false → P (Err e)
