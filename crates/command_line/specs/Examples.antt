-- The examples in the help of the commands, under any name of the program.
use Rattle.std.specs.Prelude.{List, [], ◌∷◌, codes}
use Rattle.clap.specs.Words.{Text}

abbrev pub stopping_words : Text → List Text
stopping_words name =
    name ∷ codes "apply" ∷ codes "ashby.db" ∷ codes "--stop" ∷ []

abbrev pub expecting_words : Text → List Text
expecting_words name =
    name ∷ codes "apply" ∷ codes "copy.db" ∷ codes "--expect" ∷ codes "answers.csv" ∷ []

abbrev pub batch_words : Text → List Text
batch_words name =
    name ∷ codes "entries" ∷ codes "ashby.db" ∷ codes "--source" ∷ codes "3" ∷ codes "--token" ∷ codes "page-12" ∷ []

abbrev pub table_words : Text → List Text
table_words name =
    name ∷ codes "entries" ∷ codes "ashby.db" ∷ codes "--table" ∷ codes "--check" ∷ codes "--source" ∷ codes "3"
    ∷ codes "--dates" ∷ codes "dmy" ∷ []

abbrev pub entered_table_words : Text → List Text
entered_table_words name =
    name ∷ codes "entries" ∷ codes "ashby.db" ∷ codes "--table" ∷ codes "--source" ∷ codes "3" ∷ codes "--dates"
    ∷ codes "dmy" ∷ codes "--token" ∷ codes "page-12" ∷ []

-- the same with the source by a token
abbrev pub referring_batch_words : Text → List Text
referring_batch_words name =
    name ∷ codes "entries" ∷ codes "ashby.db" ∷ codes "--source" ∷ codes "@s1" ∷ codes "--token" ∷ codes "page-12" ∷ []

abbrev pub import_words : Text → List Text
import_words name =
    name ∷ codes "import" ∷ codes "ashby.db" ∷ codes "--token" ∷ codes "first-file" ∷ []

abbrev pub told_import_words : Text → List Text
told_import_words name =
    name ∷ codes "import" ∷ codes "ashby.db" ∷ codes "--token" ∷ codes "first-file" ∷ codes "--progress" ∷ []

abbrev pub reported_import_words : Text → List Text
reported_import_words name =
    name ∷ codes "import" ∷ codes "ashby.db" ∷ codes "--token" ∷ codes "first-file" ∷ codes "--report"
    ∷ codes "first-file.txt" ∷ []

abbrev pub public_words : Text → List Text
public_words name =
    name ∷ codes "export" ∷ codes "ashby.db" ∷ codes "--public" ∷ codes "--today" ∷ codes "2024-01-01" ∷ []

abbrev pub plain_words : Text → List Text
plain_words name =
    name ∷ codes "export" ∷ codes "ashby.db" ∷ codes "--plain" ∷ []

abbrev pub public_plain_words : Text → List Text
public_plain_words name =
    name ∷ codes "export" ∷ codes "ashby.db" ∷ codes "--plain" ∷ codes "--public" ∷ codes "--today"
    ∷ codes "2024-01-01" ∷ []

abbrev pub sheet_words : Text → List Text
sheet_words name =
    name ∷ codes "sheet" ∷ codes "ashby.db" ∷ codes "pedigree" ∷ codes "17" ∷ codes "--today" ∷ codes "2024-01-01"
    ∷ codes "--generations" ∷ codes "5" ∷ []

abbrev pub serve_words : Text → List Text
serve_words name =
    name ∷ codes "serve" ∷ codes "ashby.db" ∷ codes "--port" ∷ codes "8080" ∷ codes "--count" ∷ codes "1000"
    ∷ codes "--today" ∷ codes "2024-01-01" ∷ []

abbrev pub html_words : Text → List Text
html_words name =
    name ∷ codes "serve" ∷ codes "ashby.db" ∷ codes "--port" ∷ codes "8080" ∷ codes "--count" ∷ codes "1000"
    ∷ codes "--today" ∷ codes "2024-01-01" ∷ codes "--html" ∷ []

abbrev pub days_words : Text → List Text
days_words name =
    name ∷ codes "days" ∷ codes "ashby.db" ∷ codes "--from" ∷ codes "1799-12-01" ∷ codes "--to" ∷ codes "1800-02-28"
    ∷ codes "--words" ∷ []
