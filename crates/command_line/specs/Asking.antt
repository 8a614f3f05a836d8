-- What a command line asks for, by the command that it names and the words that this is given.
use Rattle.std.specs.Prelude.{
  ◌≡◌,
  ◌⊎◌,
  ◌&&◌,
  ◌||◌,
  ℕ,
  ℤ,
  ⊤,
  Bool,
  List,
  [],
  Option,
  Some,
  None,
  IfSome,
  IsSome,
  MatchResult,
  Result,
  true,
  false,
  codes,
  is_some,
  flat_map,
  not,
  option_and_then,
  option_map,
  string_bytes,
  unwrap_or,
  if◌then◌else◌,
}
use Rattle.std.specs.Int.{IsInRange}
use Rattle.std.specs.List.{list_all, list_any}
use Rattle.std.specs.Option.{option_map_or}
use Rattle.std.specs.Str.{bytes_eq}
use Rattle.clap.specs.Words.{Row, Text, all_of, fault_of, first_of, subcommand_of}
use Rattle.clap.specs.Kinds.{IsAmong}
use Rattle.clap.specs.declared.error.kind.ErrorKind.TheVariants.{DisplayHelp, DisplayVersion}
use Rattle.command_line.specs.Commands.{program}
use Rattle.command_line.specs.Days.{day_read}
use Rattle.command_line.specs.Meanings.{
  generations_of,
  is_number,
  is_searched,
  is_shell,
  kind_named,
  list_named,
  number_of,
  number_up_to,
  number_word,
  numbers_in,
  order_named,
  records_named,
  search_words,
  set_named,
}
use Rattle.command_line.specs.declared.tasks.Asked.{Asked}
use Rattle.command_line.specs.declared.tasks.Asked.TheVariants.{
  Apply,
  Audit,
  Check,
  CheckAll,
  CheckTable,
  Completions,
  Convert,
  Days,
  EnterTable,
  Entries as EntriesAsked,
  Export,
  ExportPlain,
  ExportPublic,
  ExportPublicPlain,
  Find,
  History,
  Import,
  Init,
  List as ListAsked,
  Norm,
  Review,
  Serve,
  Sheet,
  Show,
}
use Rattle.command_line.specs.declared.tasks.ListKind.{ListKind}
use Rattle.command_line.specs.declared.tasks.ListKind.TheVariants.{Records, Slips}
use Rattle.command_line.specs.declared.tasks.RecordKind.{RecordKind}
use Rattle.command_line.specs.declared.tasks.RecordKind.TheVariants.{Entries}
use Rattle.command_line.specs.declared.tasks.Refused.{Refused}
use Rattle.command_line.specs.declared.tasks.Refused.TheVariants.{OutOfMemory}
use Rattle.command_line.specs.declared.tasks.RoomPages.{RoomPages}
use Rattle.command_line.specs.declared.tasks.RoomPages.TheVariants.{Html, Plain}
use Rattle.command_line.specs.declared.tasks.SheetKind.{SheetKind}
use Rattle.command_line.specs.declared.tasks.TableWords.{TableWords}

-- the command that words name, the program's name being the first
abbrev pub command_named : List Text → Option Text
command_named words = option_map (λ found. found.0) (subcommand_of program words)

-- the name of a command
abbrev pub name_of : Asked → Option Text
name_of Norm = Some (codes "norm")
name_of Check = Some (codes "check")
name_of CheckAll = Some (codes "check")
name_of (Convert from) = Some (codes "convert")
name_of (Init file society) = Some (codes "init")
name_of (Apply file stops answers) = Some (codes "apply")
name_of (EntriesAsked file source token) = Some (codes "entries")
name_of (EnterTable file source form token) = Some (codes "entries")
name_of (CheckTable file source form) = Some (codes "entries")
name_of (Import file token progress report) = Some (codes "import")
name_of (Export file) = Some (codes "export")
name_of (ExportPublic file today) = Some (codes "export")
name_of (ExportPlain file) = Some (codes "export")
name_of (ExportPublicPlain file today) = Some (codes "export")
name_of (Sheet file kind number generations today) = Some (codes "sheet")
name_of (Serve file port count today pages) = Some (codes "serve")
name_of (Audit file) = Some (codes "audit")
name_of (Days file first last words) = Some (codes "days")
name_of (ListAsked file kind source after limit csv) = Some (codes "list")
name_of (Find file words kind limit csv) = Some (codes "find")
name_of (Show file numbers) = Some (codes "show")
name_of (History file number) = Some (codes "history")
name_of (Review file csv) = Some (codes "review")
name_of (Completions text) = Some (codes "completions")
name_of _ = None

-- ---- the words that a command is given

-- the word for its FILE or for an option, if it is given one
abbrev pub given_in : Option (Text × List Row) → Text → Option Text
given_in found id = option_and_then (λ f. first_of id f.1) found

-- that word; the grammar takes no words that lack one that has to be there
abbrev pub word_in : Option (Text × List Row) → Text → Text
word_in found id = unwrap_or (given_in found id) []

-- the words that it is given for its last word
abbrev pub words_in : Option (Text × List Row) → Text → List Text
words_in found id = unwrap_or (option_and_then (λ f. all_of id f.1) found) []

-- the number of an option, if it is given one
abbrev pub number_given : Option (Text × List Row) → Text → Option ℕ
number_given found id = option_map number_of (given_in found id)

-- the generations that are given; 4 where none are
abbrev pub generations_in : Option (Text × List Row) → ℕ
generations_in found = generations_of (word_in found (codes "generations"))

-- the day of an option; none where no day is read from its word
abbrev pub day_given : Option (Text × List Row) → Text → Option ℤ
day_given found id = day_read (word_in found id)

-- the day of `--today`
abbrev pub day_in : Option (Text × List Row) → Option ℤ
day_in found = day_given found (codes "today")

-- an option without a value is given: the grammar has the word `true` for one that is, and else `false`
abbrev pub is_given : Option (Text × List Row) → Text → Bool
is_given found id = bytes_eq (word_in found id) (codes "true")

-- `--public` is given
abbrev pub is_public : Option (Text × List Row) → Bool
is_public found = is_given found (codes "public")

-- `--plain` is given
abbrev pub is_plain : Option (Text × List Row) → Bool
is_plain found = is_given found (codes "plain")

-- `--html` is given
abbrev pub is_html : Option (Text × List Row) → Bool
is_html found = is_given found (codes "html")

-- `--stop` is given
abbrev pub is_stop : Option (Text × List Row) → Bool
is_stop found = is_given found (codes "stop")

-- `--progress` is given
abbrev pub is_told : Option (Text × List Row) → Bool
is_told found = is_given found (codes "progress")

-- `--csv` is given
abbrev pub is_csv : Option (Text × List Row) → Bool
is_csv found = is_given found (codes "csv")

-- `--all` is given
abbrev pub is_all : Option (Text × List Row) → Bool
is_all found = is_given found (codes "all")

-- `--table`, `--check` and `--make-places` are given
abbrev pub is_table : Option (Text × List Row) → Bool
is_table found = is_given found (codes "table")

abbrev pub is_checked : Option (Text × List Row) → Bool
is_checked found = is_given found (codes "check")

abbrev pub is_making : Option (Text × List Row) → Bool
is_making found = is_given found (codes "make-places")

-- an option is given a word of which this is the meaning; or it is not given, and this is none
abbrev pub IsMeant : {A : Type 0} → (Text → Option A) → Option Text → Option A → Type 0
IsMeant meaning word value = option_map meaning word ≡ option_map Some value

-- a list is one of the entries of a source only where it is one of entries
abbrev pub is_of_source : RecordKind → Bool → Bool
is_of_source Entries has_source = true
is_of_source kind has_source = not has_source

abbrev pub is_listed : ListKind → Bool → Bool
is_listed (Records kind) has_source = is_of_source kind has_source
is_listed Slips has_source = not has_source

abbrev pub kind_in : Option (Text × List Row) → Option SheetKind
kind_in found = kind_named (word_in found (codes "KIND"))

-- pages of text or of HTML, and these have the name that is given
abbrev pub HasPages : Option (Text × List Row) → RoomPages → Type 0
HasPages found Plain = (is_html found ≡ false) × (given_in found (codes "host") ≡ None)
HasPages found (Html host) = (is_html found ≡ true) × (option_map string_bytes host ≡ given_in found (codes "host"))

-- a table is read as the options say
abbrev pub HasForm : Option (Text × List Row) → TableWords → Type 0
HasForm found form = IsMeant order_named (given_in found (codes "dates")) form.order
    × IsMeant set_named (given_in found (codes "from")) form.set × (form.makes ≡ is_making found)

-- what is asked for has the words that the command is given
abbrev pub HasWords : Option (Text × List Row) → Asked → Type 0
HasWords found Check = is_all found ≡ false
HasWords found CheckAll = is_all found ≡ true
HasWords found (Convert from) = IsMeant set_named (given_in found (codes "from")) from
HasWords found (Init file society) = (file.now ≡ word_in found (codes "FILE"))
    × (society.now ≡ word_in found (codes "society"))
HasWords found (Apply file stops answers) = (file.now ≡ word_in found (codes "FILE")) × (stops ≡ is_stop found)
    × (option_map (λ w. w.now) answers ≡ given_in found (codes "expect"))
HasWords found (EntriesAsked file source token) =
    (file.now ≡ word_in found (codes "FILE")) × (number_word (word_in found (codes "source")) ≡ Some source)
    × (given_in found (codes "token") ≡ Some token.now) × (is_table found ≡ false) × (is_checked found ≡ false)
    × (given_in found (codes "dates") ≡ None) × (given_in found (codes "from") ≡ None) × (is_making found ≡ false)
HasWords found (EnterTable file source form token) =
    (file.now ≡ word_in found (codes "FILE")) × (number_word (word_in found (codes "source")) ≡ Some source)
    × (is_table found ≡ true) × HasForm found form × (is_checked found ≡ false)
    × (given_in found (codes "token") ≡ Some token.now)
HasWords found (CheckTable file source form) =
    (file.now ≡ word_in found (codes "FILE")) × (number_word (word_in found (codes "source")) ≡ Some source)
    × (is_table found ≡ true) × HasForm found form × (is_checked found ≡ true)
HasWords found (Import file token progress report) =
    (file.now ≡ word_in found (codes "FILE")) × (token.now ≡ word_in found (codes "token"))
    × (progress ≡ is_told found) × (option_map (λ w. w.now) report ≡ given_in found (codes "report"))
HasWords found (Export file) =
    (file.now ≡ word_in found (codes "FILE")) × (is_public found ≡ false) × (given_in found (codes "today") ≡ None)
    × (is_plain found ≡ false)
HasWords found (ExportPublic file today) =
    (file.now ≡ word_in found (codes "FILE")) × (is_public found ≡ true) × (day_in found ≡ Some today)
    × (is_plain found ≡ false)
HasWords found (ExportPlain file) =
    (file.now ≡ word_in found (codes "FILE")) × (is_public found ≡ false) × (given_in found (codes "today") ≡ None)
    × (is_plain found ≡ true)
HasWords found (ExportPublicPlain file today) =
    (file.now ≡ word_in found (codes "FILE")) × (is_public found ≡ true) × (day_in found ≡ Some today)
    × (is_plain found ≡ true)
HasWords found (Sheet file kind number generations today) =
    (file.now ≡ word_in found (codes "FILE")) × (kind_in found ≡ Some kind)
    × (number ≡ number_of (word_in found (codes "NO"))) × (generations ≡ generations_in found)
    × IsInRange 1 12 generations × (day_in found ≡ Some today)
HasWords found (Serve file port count today pages) =
    (file.now ≡ word_in found (codes "FILE")) × (port ≡ number_up_to 65535 (word_in found (codes "port")))
    × (count ≡ number_of (word_in found (codes "count"))) × (day_in found ≡ Some today) × HasPages found pages
HasWords found (Audit file) = file.now ≡ word_in found (codes "FILE")
HasWords found (Review file csv) = (file.now ≡ word_in found (codes "FILE")) × (csv ≡ is_csv found)
HasWords found (Days file first last words) =
    (file.now ≡ word_in found (codes "FILE")) × (day_given found (codes "from") ≡ Some first)
    × (day_given found (codes "to") ≡ Some last) × (words ≡ is_given found (codes "words"))
HasWords found (ListAsked file kind source after limit csv) =
    (file.now ≡ word_in found (codes "FILE")) × (list_named (word_in found (codes "KIND")) ≡ Some kind)
    × IsMeant number_word (given_in found (codes "source")) source
    × (is_listed kind (is_some (given_in found (codes "source"))) ≡ true)
    × (after ≡ number_of (word_in found (codes "after"))) × (limit ≡ number_given found (codes "limit"))
    × (csv ≡ is_csv found)
HasWords found (Find file words kind limit csv) =
    (file.now ≡ word_in found (codes "FILE")) × (words ≡ flat_map search_words (words_in found (codes "WORD")))
    × (list_all is_searched (words_in found (codes "WORD")) ≡ true)
    × IsMeant records_named (given_in found (codes "kind")) kind × (limit ≡ number_given found (codes "limit"))
    × (csv ≡ is_csv found)
HasWords found (Show file numbers) =
    (file.now ≡ word_in found (codes "FILE")) × (numbers.items ≡ flat_map numbers_in (words_in found (codes "NO")))
    × (list_all is_number (words_in found (codes "NO")) ≡ true)
HasWords found (History file number) =
    (file.now ≡ word_in found (codes "FILE")) × (number ≡ number_of (word_in found (codes "NO")))
HasWords found (Completions text) = is_shell (word_in found (codes "SHELL")) ≡ true
HasWords found _ = ⊤

-- ---- the words that are taken

abbrev pub is_named : Option (Text × List Row) → Text → Bool
is_named found name = option_map_or (λ f. bytes_eq f.0 name) found false

-- a command of the program is named
abbrev pub is_of_program : Option (Text × List Row) → Bool
is_of_program found = list_any (λ shape. is_named found shape.name) program.subs

-- an export has a day where it is for the public, and else is given none
abbrev pub is_export_fit : Option (Text × List Row) → Bool
is_export_fit found =
    if is_public found then is_some (day_in found) else not (is_some (given_in found (codes "today")))

-- an option that is given has a word with a meaning
abbrev pub is_meant : {A : Type 0} → (Text → Option A) → Option Text → Bool
is_meant meaning word = option_map_or (λ w. is_some (meaning w)) word true

-- a room of text is given no name
abbrev pub are_pages_fit : Option (Text × List Row) → Bool
are_pages_fit found = is_html found || not (is_some (given_in found (codes "host")))

-- a list has a kind of records or is of slips, and it has a source only with entries, which is given by a number
abbrev pub is_list_fit : Option (Text × List Row) → Bool
is_list_fit found =
    option_map_or (λ kind. is_listed kind (is_some (given_in found (codes "source"))))
    (list_named (word_in found (codes "KIND"))) false
    && is_meant number_word (given_in found (codes "source"))

-- a search has words that can be searched for, and where a kind is given it is one
abbrev pub is_search_fit : Option (Text × List Row) → Bool
is_search_fit found =
    list_all is_searched (words_in found (codes "WORD")) && is_meant records_named (given_in found (codes "kind"))

-- a batch has a token, and no word of tables
abbrev pub is_batch_fit : Option (Text × List Row) → Bool
is_batch_fit found = is_some (given_in found (codes "token"))
    && (not (is_checked found) && (not (is_making found)
    && (not (is_some (given_in found (codes "dates"))) && not (is_some (given_in found (codes "from"))))))

-- where an order of dates is given it is one, and where a character set is given it is one
abbrev pub is_form_fit : Option (Text × List Row) → Bool
is_form_fit found =
    is_meant order_named (given_in found (codes "dates")) && is_meant set_named (given_in found (codes "from"))

-- a table is checked, and then a token is not looked at, or it has a token; and it is read in a way that is one
abbrev pub is_table_fit : Option (Text × List Row) → Bool
is_table_fit found = (is_checked found || is_some (given_in found (codes "token"))) && is_form_fit found

-- and the word of the source gives a number
abbrev pub are_entries_fit : Option (Text × List Row) → Bool
are_entries_fit found =
    is_number (word_in found (codes "source"))
    && (if is_table found then is_table_fit found else is_batch_fit found)

-- beside the grammar: entries are a batch or a table with a token, or a table that is checked, of a source that a
-- number gives, a sheet has a kind and a day, a room has a day and a name only with HTML, a list has a kind, a search
-- has words with letters or digits, completions are of a shell, records are shown by numbers, and what is given of a
-- kind, of a character set or of an order of dates is one
abbrev pub is_fit : Option (Text × List Row) → Bool
is_fit found =
    if is_named found (codes "export") then is_export_fit found
    else if is_named found (codes "entries") then are_entries_fit found
    else if is_named found (codes "sheet") then is_some (kind_in found) && is_some (day_in found)
    else if is_named found (codes "serve") then is_some (day_in found) && are_pages_fit found
    else if is_named found (codes "days") then is_some (day_given found (codes "from")) && is_some
    (day_given found (codes "to"))
    else if is_named found (codes "convert") then is_meant set_named (given_in found (codes "from"))
    else if is_named found (codes "list") then is_list_fit found
    else if is_named found (codes "find") then is_search_fit found
    else if is_named found (codes "show") then list_all is_number (words_in found (codes "NO"))
    else if is_named found (codes "completions") then is_shell (word_in found (codes "SHELL"))
    else true

-- the words are those of a command, with nothing that it does not take: the grammar has no fault to find in them, and
-- their days, kinds and character set are some where they have to be
abbrev pub IsTaken : List Text → Type 0
IsTaken words = (fault_of program words ≡ []) × (is_fit (subcommand_of program words) ≡ true)

-- work is asked for only by words that are taken, that name its command, and that it has
abbrev pub Asks : List Text → Asked → Type 0
Asks words asked = IfSome (name_of asked) (λ name. IsTaken words × (command_named words ≡ Some name))
    × HasWords (subcommand_of program words) asked

-- work is asked for, unless out of memory
abbrev pub AsksForWork : Result Asked Refused → Type 0
AsksForWork result = MatchResult result (λ asked. IsSome (name_of asked)) (λ refused. refused ≡ OutOfMemory)

-- ---- help

-- the words ask for help or for the version: the grammar of the program finds that in them before all else
abbrev pub AsksForHelp : List Text → Type 0
AsksForHelp words = IsAmong DisplayHelp (fault_of program words) ⊎ IsAmong DisplayVersion (fault_of program words)
