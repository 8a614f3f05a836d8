-- The commands of the program as `clap` gets them.
use Rattle.std.specs.Prelude.{ℕ, List, [], ◌∷◌, Some, true, codes, fold}
use Rattle.clap.specs.Lexer.{usize_max}
use Rattle.clap.specs.Words.{App, Rule, Shape, Text, new_rule, with_subcommand}
use Rattle.clap.specs.Simple.{new_shape}
use Rattle.clap.specs.declared.builder.action.ArgAction.TheVariants.{Append, Set, SetTrue}
use Rattle.clap.specs.declared.builder.value_parser.ValueParser.TheVariants.{Unsigned}

-- the program without its commands: it has a version, demands a command, and has none called help
abbrev pub bare : App
bare = record {
  top = record (new_shape (codes "parish")) {
    disable_help_subcommand = true;
    has_version = true;
    subcommand_required = true;
  };
  subs = [];
}

-- a word that has to be there
abbrev pub word_rule : Text → Rule
word_rule id = record (new_rule id) { action = Some Set; required = true }

-- a word that has to be there, and is a number of those
abbrev pub number_rule : Text → ℕ → ℕ → Rule
number_rule id least most = record (word_rule id) { parser = Some (Unsigned least most) }

-- an option with a value
abbrev pub option_rule : Text → Rule
option_rule name = record (new_rule name) { long = Some name; action = Some Set; value_names = 1 }

-- an option that has to be there
abbrev pub needed_rule : Text → Rule
needed_rule name = record (option_rule name) { required = true }

-- an option that has to be there, and is a number of those
abbrev pub needed_number_rule : Text → ℕ → ℕ → Rule
needed_number_rule name least most = record (needed_rule name) { parser = Some (Unsigned least most) }

-- FILE
abbrev pub file_rule : Rule
file_rule = word_rule (codes "FILE")

-- KIND, any word here
abbrev pub kind_rule : Rule
kind_rule = word_rule (codes "KIND")

-- NO, a number of a record
abbrev pub record_rule : Rule
record_rule = number_rule (codes "NO") 1 4294967295

-- `--society NAME`
abbrev pub society_rule : Rule
society_rule = needed_rule (codes "society")

-- `--source N`, any word here
abbrev pub source_rule : Rule
source_rule = needed_rule (codes "source")

-- `--token T`
abbrev pub token_rule : Rule
token_rule = needed_rule (codes "token")

-- the same where it may be left out
abbrev pub maybe_token_rule : Rule
maybe_token_rule = option_rule (codes "token")

-- `--today YYYY-MM-DD`, any word here
abbrev pub today_rule : Rule
today_rule = needed_rule (codes "today")

-- the same where it may be left out
abbrev pub maybe_today_rule : Rule
maybe_today_rule = option_rule (codes "today")

-- an option that may be left out, and else is a number of those
abbrev pub maybe_number_rule : Text → ℕ → ℕ → Rule
maybe_number_rule name least most = record (option_rule name) { parser = Some (Unsigned least most) }

-- the last words, one or more
abbrev pub last_rule : Text → Rule
last_rule id = record (new_rule id) {
  action = Some Append;
  range = Some (record { start_inclusive = 1; end_inclusive = usize_max });
  required = true;
}

-- an option without a value, which may be left out
abbrev pub flag_rule : Text → Rule
flag_rule name = record (new_rule name) { long = Some name; action = Some SetTrue }

-- `--stop`
abbrev pub stop_rule : Rule
stop_rule = flag_rule (codes "stop")

-- `--expect ANSWERS`
abbrev pub expect_rule : Rule
expect_rule = option_rule (codes "expect")

-- `--table`, `--check`, `--make-places` and `--dates ORDER`, any word here
abbrev pub table_rule : Rule
table_rule = flag_rule (codes "table")

abbrev pub checked_rule : Rule
checked_rule = flag_rule (codes "check")

abbrev pub makes_rule : Rule
makes_rule = flag_rule (codes "make-places")

abbrev pub order_rule : Rule
order_rule = option_rule (codes "dates")

-- `--public`
abbrev pub public_rule : Rule
public_rule = flag_rule (codes "public")

-- `--plain`
abbrev pub plain_rule : Rule
plain_rule = flag_rule (codes "plain")

-- `--progress`
abbrev pub progress_rule : Rule
progress_rule = flag_rule (codes "progress")

-- `--report REPORT`, any word here
abbrev pub report_rule : Rule
report_rule = option_rule (codes "report")

-- `--generations G`, which may be left out
abbrev pub generations_rule : Rule
generations_rule = maybe_number_rule (codes "generations") 1 12

-- `--port P`
abbrev pub port_rule : Rule
port_rule = needed_number_rule (codes "port") 1 65535

-- `--count N`
abbrev pub count_rule : Rule
count_rule = needed_number_rule (codes "count") 0 1000000

-- `--html`
abbrev pub html_rule : Rule
html_rule = flag_rule (codes "html")

-- `--host NAME`, any word here
abbrev pub host_rule : Rule
host_rule = option_rule (codes "host")

-- `--from YYYY-MM-DD` and `--to YYYY-MM-DD`, any word here
abbrev pub from_rule : Rule
from_rule = needed_rule (codes "from")

abbrev pub to_rule : Rule
to_rule = needed_rule (codes "to")

-- `--words`
abbrev pub words_rule : Rule
words_rule = flag_rule (codes "words")

-- `--all`
abbrev pub all_rule : Rule
all_rule = flag_rule (codes "all")

-- `--from SET`, any word here
abbrev pub set_rule : Rule
set_rule = option_rule (codes "from")

-- `--source N`, any word here, `--after NUMBER` and `--limit N`, which may be left out
abbrev pub maybe_source_rule : Rule
maybe_source_rule = option_rule (codes "source")

abbrev pub after_rule : Rule
after_rule = maybe_number_rule (codes "after") 0 4294967295

abbrev pub limit_rule : Rule
limit_rule = maybe_number_rule (codes "limit") 1 4294967295

-- SHELL, any word here
abbrev pub shell_rule : Rule
shell_rule = word_rule (codes "SHELL")

-- `--csv`
abbrev pub csv_rule : Rule
csv_rule = flag_rule (codes "csv")

-- `--kind KIND`, any word here
abbrev pub option_kind_rule : Rule
option_kind_rule = option_rule (codes "kind")

-- WORD.., the words of a search
abbrev pub search_rule : Rule
search_rule = last_rule (codes "WORD")

-- NO.., any words here
abbrev pub records_rule : Rule
records_rule = last_rule (codes "NO")

-- the commands
abbrev pub norm_shape : Shape
norm_shape = new_shape (codes "norm")

abbrev pub check_shape : Shape
check_shape = record (new_shape (codes "check")) { rules = all_rule ∷ [] }

abbrev pub convert_shape : Shape
convert_shape = record (new_shape (codes "convert")) { rules = set_rule ∷ [] }

abbrev pub init_shape : Shape
init_shape = record (new_shape (codes "init")) { rules = file_rule ∷ society_rule ∷ [] }

abbrev pub apply_shape : Shape
apply_shape = record (new_shape (codes "apply")) { rules = file_rule ∷ stop_rule ∷ expect_rule ∷ [] }

abbrev pub entries_shape : Shape
entries_shape = record (new_shape (codes "entries")) {
  rules = file_rule ∷ source_rule ∷ maybe_token_rule ∷ table_rule ∷ checked_rule ∷ makes_rule ∷ order_rule
      ∷ set_rule ∷ [];
}

abbrev pub import_shape : Shape
import_shape = record (new_shape (codes "import")) {
  rules = file_rule ∷ token_rule ∷ progress_rule ∷ report_rule ∷ [];
}

abbrev pub export_shape : Shape
export_shape = record (new_shape (codes "export")) {
  rules = file_rule ∷ public_rule ∷ maybe_today_rule ∷ plain_rule ∷ [];
}

abbrev pub sheet_shape : Shape
sheet_shape = record (new_shape (codes "sheet")) {
  rules = file_rule ∷ kind_rule ∷ record_rule ∷ today_rule ∷ generations_rule ∷ [];
}

abbrev pub serve_shape : Shape
serve_shape = record (new_shape (codes "serve")) {
  rules = file_rule ∷ port_rule ∷ count_rule ∷ today_rule ∷ html_rule ∷ host_rule ∷ [];
}

abbrev pub audit_shape : Shape
audit_shape = record (new_shape (codes "audit")) { rules = file_rule ∷ [] }

abbrev pub days_shape : Shape
days_shape = record (new_shape (codes "days")) { rules = file_rule ∷ from_rule ∷ to_rule ∷ words_rule ∷ [] }

abbrev pub list_shape : Shape
list_shape = record (new_shape (codes "list")) {
  rules = file_rule ∷ kind_rule ∷ maybe_source_rule ∷ after_rule ∷ limit_rule ∷ csv_rule ∷ [];
}

abbrev pub find_shape : Shape
find_shape = record (new_shape (codes "find")) {
  rules = file_rule ∷ search_rule ∷ option_kind_rule ∷ limit_rule ∷ csv_rule ∷ [];
}

abbrev pub show_shape : Shape
show_shape = record (new_shape (codes "show")) { rules = file_rule ∷ records_rule ∷ [] }

abbrev pub history_shape : Shape
history_shape = record (new_shape (codes "history")) { rules = file_rule ∷ record_rule ∷ [] }

abbrev pub review_shape : Shape
review_shape = record (new_shape (codes "review")) { rules = file_rule ∷ csv_rule ∷ [] }

abbrev pub completions_shape : Shape
completions_shape = record (new_shape (codes "completions")) { rules = shell_rule ∷ [] }

abbrev pub commands : List Shape
commands = norm_shape ∷ check_shape ∷ convert_shape ∷ init_shape ∷ apply_shape ∷ entries_shape ∷ import_shape
    ∷ export_shape ∷ sheet_shape ∷ serve_shape ∷ audit_shape ∷ days_shape ∷ list_shape ∷ find_shape ∷ show_shape
    ∷ history_shape ∷ review_shape ∷ completions_shape ∷ []

-- the program with its commands
abbrev pub program : App
program = fold with_subcommand bare commands
