-- What a row of requests asks for: a token, a verb and its fields. A rule of our own.
use Rattle.std.specs.Prelude.{
  ◌≡◌,
  ◌⊎◌,
  ℕ,
  List,
  [],
  ◌∷◌,
  true,
  false,
  Option,
  Some,
  None,
  Result,
  Ok,
  Err,
  unwrap_or,
}
use Rattle.csv.specs.Records.{AllText}
use Rattle.receipts.specs.Tokens.{IsToken}
use Rattle.record_text.specs.declared.refusal.RefusalKind.{RefusalKind}
use Rattle.record_text.specs.declared.refusal.RefusalKind.TheVariants.{
  BadRow,
  BadStored,
  BadToken,
  FieldCount,
  NoSuch,
  OutOfMemory,
}
use Rattle.commands.specs.Rows.{Reads, is_want}
use Rattle.commands.specs.declared.command.Command.TheVariants as command
use Rattle.commands.specs.declared.row_command.RowCommand.{RowCommand}
use Rattle.archive_core.specs.declared.request.Request.{Request}
use Rattle.row_references.specs.References.{any_number, has_references, numbered}
use Rattle.archive_input.specs.declared.bad_request.BadRequest.{BadRequest}

-- a request; or why a row is none, with its token where that is known
abbrev pub Asked : Type 0
Asked = Result Request BadRequest

-- a row of that token that is refused so
abbrev pub refused_under : List ℕ → RefusalKind → BadRequest
refused_under token kind = record { token = Some token; kind = kind }

abbrev pub told : List ℕ → RefusalKind → Asked
told token kind = Err (refused_under token kind)

abbrev pub untold : RefusalKind → Asked
untold kind = Err (record { token = None; kind = kind })

-- a command under its token
abbrev pub under : List ℕ → Result RowCommand RefusalKind → Asked
under token (Ok c) = Ok (record { token = token; command = command.Row c; digest = None })
under token (Err kind) = told token kind

-- what is after the token: a verb with its fields; nothing is a wrong count
abbrev pub ReadsFields : List (List ℕ) → Result RowCommand RefusalKind → Type 0
ReadsFields [] read = read ≡ Err FieldCount
ReadsFields (verb ∷ fields) read = Reads (verb ∷ fields) read

abbrev pub AsksUnder : List ℕ → List (List ℕ) → Asked → Type 0
AsksUnder token fields asked = (read : Result RowCommand RefusalKind) × ReadsFields fields read
    × (asked ≡ under token read)

-- the first field is the token
abbrev pub AsksText : List (List ℕ) → Asked → Type 0
AsksText [] asked = asked ≡ untold BadToken
AsksText (token ∷ fields) asked = (IsToken token × AsksUnder token fields asked)
    ⊎ (¬ (IsToken token) × (asked ≡ untold BadToken))

-- before all else each field has to be UTF-8
abbrev pub Asks : List (List ℕ) → Asked → Type 0
Asks row asked = (AllText row × AsksText row asked) ⊎ (¬ (AllText row) × (asked ≡ untold BadRow))

-- ---- references
-- the row with any numbers in place of its references: by it the form of a row is judged
abbrev pub in_form : List (List ℕ) → List (List ℕ)
in_form row = unwrap_or (numbered any_number row) row

-- the row with its numbers; where a reference has none it is refused with 50
abbrev pub AsksNumbered : List ℕ → Option (List (List ℕ)) → Asked → Type 0
AsksNumbered token None asked = asked ≡ told token NoSuch
AsksNumbered token (Some row) asked = Asks row asked

-- by what it asks for with any numbers: a refusal stays
abbrev pub AsksAfter : Option (List (List ℕ)) → Asked → Asked → Type 0
AsksAfter own (Err bad) asked = asked ≡ Err bad
AsksAfter own (Ok r) asked = AsksNumbered r.token own asked

-- what a row asks for where this is the row with its numbers
abbrev pub AsksWith : Option (List (List ℕ)) → List (List ℕ) → Asked → Type 0
AsksWith own row asked = (form : Asked) × Asks (in_form row) form × AsksAfter own form asked

-- a row whose references were not found out: memory was refused, or what the archive holds for one cannot be read
abbrev pub IsUnread : List (List ℕ) → BadRequest → Type 0
IsUnread row bad = (has_references row ≡ true) × ((bad.kind ≡ OutOfMemory) ⊎ (bad.kind ≡ BadStored))
    × (r : Request) × Asks (in_form row) (Ok r)

-- something is asked for of which P holds; out of memory may come in place of any
abbrev pub OrWants : Asked → (Asked → Type 0) → Type 0
OrWants (Ok request) P = P (Ok request)
OrWants (Err bad) P = is_want bad.kind ≡ false → P (Err bad)
