-- Commands as rows have them, and what bytes are written from. A rule of our own.
use Rattle.std.specs.Prelude.{◌≡◌, ◌≢◌, ℕ, ◌≤◌, List, [], ◌∷◌, Option, Some, None}
use Rattle.std.specs.List.{All}
use Rattle.gedcom_tree.specs.Text.{IsForest, IsSame}
use Rattle.commands.specs.Bytes.{Wording, Row, Batch, Import}
use Rattle.commands.specs.Given.{GivenDate, IsGiven}
use Rattle.commands.specs.Mentions.{IsCount}
use Rattle.commands.specs.Verbs.{verb_word}
use Rattle.commands.specs.declared.correction.GivenCorrection.{GivenCorrection}
use Rattle.commands.specs.declared.correction.GivenCorrection.TheVariants as correction
use Rattle.commands.specs.declared.correction.GivenValue.{GivenValue}
use Rattle.commands.specs.declared.correction.GivenValue.TheVariants as of_field
use Rattle.commands.specs.declared.entry_row.EntryRow.{EntryRow}
use Rattle.commands.specs.declared.command.Command.{Command}
use Rattle.commands.specs.declared.command.Command.TheVariants as command
use Rattle.commands.specs.declared.row_command.RowCommand.{RowCommand}
use Rattle.commands.specs.declared.row_command.RowCommand.TheVariants as row_command
use Rattle.commands.specs.declared.verb.Verb.{Verb}

-- 1 to 4,294,967,295
abbrev pub IsNumber : ℕ → Type 0
IsNumber n = (1 ≤ n) × (n ≤ 4294967295)

-- a date as its type keeps it
abbrev pub IsDate : GivenDate → Type 0
IsDate given = IsGiven given.spelling given.date

-- of what there is, P holds
abbrev pub WhereSome : {A : Type 0} → (A → Type 0) → Option A → Type 0
WhereSome P None = Unit {0}
WhereSome P (Some a) = P a

-- the same of a register entry as a row gives it: it has 1 to 100 mentions
abbrev pub IsSoundEntry : EntryRow → Type 0
IsSoundEntry e = WhereSome IsDate e.date × WhereSome IsNumber e.place × IsCount e.mentions

-- the same of a correction
abbrev pub IsSoundValue : GivenValue → Type 0
IsSoundValue (of_field.Date d) = WhereSome IsDate d
IsSoundValue (of_field.Place n) = WhereSome IsNumber n
IsSoundValue (of_field.Repository n) = WhereSome IsNumber n
IsSoundValue _ = Unit {0}

abbrev pub IsSoundGiven : GivenCorrection → Type 0
IsSoundGiven (correction.Tag words) = Unit {0}
IsSoundGiven (correction.Value v) = IsSoundValue v

-- the numbers of a row are in range, and its dates as their type keeps them
abbrev pub IsSoundRow : RowCommand → Type 0
IsSoundRow (row_command.Person name sex) = Unit {0}
IsSoundRow (row_command.Name person name) = IsNumber person
IsSoundRow (row_command.Sex person sex) = IsNumber person
IsSoundRow (row_command.Family husband wife) = WhereSome IsNumber husband × WhereSome IsNumber wife
IsSoundRow (row_command.Child family person) = IsNumber family × IsNumber person
IsSoundRow (row_command.Event owner tag value date place) = IsNumber owner × WhereSome IsDate date
    × WhereSome IsNumber place
IsSoundRow (row_command.Amend event value date place) = IsNumber event × WhereSome IsDate date
    × WhereSome IsNumber place
IsSoundRow (row_command.Participant event person role) = IsNumber event × IsNumber person
IsSoundRow (row_command.Place name parent) = WhereSome IsNumber parent
IsSoundRow (row_command.Repo name) = Unit {0}
IsSoundRow (row_command.Source title author publisher repo call_number) = WhereSome IsNumber repo
IsSoundRow (row_command.Citation owner source page quality) = IsNumber owner × IsNumber source
IsSoundRow (row_command.Entry source entry) = IsNumber source × IsSoundEntry entry
IsSoundRow (row_command.Link entry mention person reason) = IsNumber entry × IsNumber mention × IsNumber person
IsSoundRow (row_command.Unlink entry mention) = IsNumber entry × IsNumber mention
IsSoundRow (row_command.Merge keep gone) = IsNumber keep × IsNumber gone
IsSoundRow (row_command.Undo slip) = IsNumber slip
IsSoundRow (row_command.Remove number) = IsNumber number
IsSoundRow (row_command.Partner family partnership person) = IsNumber family × IsNumber person
IsSoundRow (row_command.Unpartner family person) = IsNumber family × IsNumber person
IsSoundRow (row_command.Unchild family person) = IsNumber family × IsNumber person
IsSoundRow (row_command.Unparticipant event place) = IsNumber event × IsNumber place
IsSoundRow (row_command.Correct number given) = IsNumber number × IsSoundGiven given

-- the same of any command: of a batch of entries, of its source and of each row; the nodes of an import are a forest
abbrev pub IsSound : Command → Type 0
IsSound (command.Row c) = IsSoundRow c
IsSound (command.Entries source rows) = IsNumber source × All IsSoundEntry rows
IsSound (command.Import forest) = IsForest forest

-- one command, where the numbers of the lines of an import are not looked at
abbrev pub IsOneCommand : Command → Command → Type 0
IsOneCommand (command.Import f) (command.Import g) = IsSame f g
IsOneCommand c d = c ≡ d

-- a row begins with the word of a verb
abbrev pub BeginsWithVerb : List (List ℕ) → Type 0
BeginsWithVerb [] = ⊥
BeginsWithVerb (word ∷ fields) = (verb : Verb) × (word ≡ verb_word verb)

-- each row has a field
abbrev pub HaveFields : List (List (List ℕ)) → Type 0
HaveFields [] = Unit {0}
HaveFields (row ∷ rows) = (row ≢ []) × HaveFields rows

-- a row begins with the word of a verb; the source of a batch is a number of 32 bits, and its rows have fields; the
-- text of an import is any
abbrev pub IsSoundWording : Wording → Type 0
IsSoundWording (Row fields) = BeginsWithVerb fields
IsSoundWording (Batch source rows) = (source ≤ 4294967295) × HaveFields rows
IsSoundWording (Import text) = Unit {0}
