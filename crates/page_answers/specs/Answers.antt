-- What an archive answers for a row of a page.
use Rattle.std.specs.Prelude.{
  ℕ,
  ◌==◌,
  ◌≡◌,
  Bool,
  true,
  false,
  List,
  Option,
  Some,
  None,
  Result,
  Ok,
  Err,
  [],
  ◌∷◌,
  ◌++◌,
  if◌then◌else◌,
}
use Rattle.std.specs.FinMap.{get}
use Rattle.receipts.specs.declared.answer.Receipt.{Receipt}
use Rattle.record_text.specs.declared.refusal.RefusalKind.{RefusalKind}
use Rattle.record_text.specs.declared.refusal.RefusalKind.TheVariants.{BadText, NoSuch}
use Rattle.archive_state.specs.Content.{Content}
use Rattle.commands.specs.Fields.{text_of}
use Rattle.command_checks.specs.Checks.{each, passed, said_place_at}
use Rattle.command_checks.specs.Entries.{key_is_free}
use Rattle.import_definitions.specs.Made.{lowest_place}
use Rattle.table_pages.specs.Sheets.{Sheet}
use Rattle.table_pages.specs.declared.columns.Column.TheVariants as column
use Rattle.table_pages.specs.declared.fault.FaultKind.{FaultKind}
use Rattle.table_pages.specs.declared.sheet.SheetRow.{SheetRow}
use Rattle.page_entries.specs.Entries.{cell_under}
use Rattle.page_entries.specs.Places.{place_in}
use Rattle.page_entries.specs.declared.places.PagePlace.{PagePlace}
use Rattle.page_entries.specs.declared.places.PagePlace.TheVariants.{Number, Token, Path}
use Rattle.page_places.specs.News.{is_made, news_for}
use Rattle.page_places.specs.declared.news.News.{News}
use Rattle.page_answers.specs.Keys.{key_of}
use Rattle.page_answers.specs.declared.answers.RowAnswer.{RowAnswer}
use Rattle.page_answers.specs.declared.keys.Key.{Key}

-- why something is refused, if it is
abbrev pub refusal : {A : Type 0} → Result A RefusalKind → Option RefusalKind
refusal (Ok a) = None
refusal (Err kind) = Some kind

-- ---- places
-- what stands at the number has to be a place that an entry may have
abbrev pub number_refusal : Content → ℕ → Option RefusalKind
number_refusal c number = refusal (passed (each (said_place_at c) (Some number)))

-- the first number that a request made; none, where it made nothing
abbrev pub made_first : Option Receipt → Option ℕ
made_first None = None
made_first (Some receipt) = if receipt.answer.count == 0 then None else Some receipt.answer.first

abbrev pub made_refusal : Content → Option ℕ → Option RefusalKind
made_refusal c None = Some NoSuch
made_refusal c (Some number) = number_refusal c number

abbrev pub token_refusal : Content → List ℕ → Option RefusalKind
token_refusal c token = made_refusal c (made_first (get c.receipts token))

-- a place has the path
abbrev pub if_missing : Option ℕ → Option RefusalKind
if_missing None = Some NoSuch
if_missing (Some number) = None

abbrev pub text_refusal : Content → List ℕ → Option RefusalKind
text_refusal c path = if_missing (lowest_place c.records path)

abbrev pub written_refusal : Content → Option (List ℕ) → Option RefusalKind
written_refusal c None = Some BadText
written_refusal c (Some path) = text_refusal c path

abbrev pub path_refusal : Content → List ℕ → Option RefusalKind
path_refusal c path = written_refusal c (text_of path)

abbrev pub place_refusal : Content → PagePlace → Option RefusalKind
place_refusal c (Number number) = number_refusal c number
place_refusal c (Token token) = token_refusal c token
place_refusal c (Path path) = path_refusal c path

abbrev pub maybe_refusal : Content → Option PagePlace → Option RefusalKind
maybe_refusal c None = None
maybe_refusal c (Some place) = place_refusal c place

-- of what a cell means
abbrev pub cell_refusal : Content → Result (Option PagePlace) FaultKind → Option RefusalKind
cell_refusal c (Ok place) = maybe_refusal c place
cell_refusal c (Err kind) = None

-- ---- places that are to be made
-- what is to be made, where no place has the path
abbrev pub news_by : Content → (List ℕ → Bool) → List ℕ → Option RefusalKind → Option News
news_by c made path (Some NoSuch) = Some (news_for c.records made path)
news_by c made path refusal = None

abbrev pub place_news : Content → (List ℕ → Bool) → Option PagePlace → Option News
place_news c made (Some (Path path)) = news_by c made path (path_refusal c path)
place_news c made place = None

-- of what a cell means
abbrev pub cell_news : Content → (List ℕ → Bool) → Result (Option PagePlace) FaultKind → Option News
cell_news c made (Ok place) = place_news c made place
cell_news c made (Err kind) = None

-- nothing is to be made unless that is asked for
abbrev pub row_news : Content → Bool → (List ℕ → Bool) → Sheet → SheetRow → Option News
row_news c makes made sheet row =
    if makes then cell_news c made (place_in (cell_under sheet row column.Place)) else None

-- a place that is to be made is no fault, unless it or one above it has no name
abbrev pub unless_named : Bool → Option RefusalKind
unless_named is_unnamed = if is_unnamed then Some BadText else None

abbrev pub refusal_with : Option RefusalKind → Option News → Option RefusalKind
refusal_with place None = place
refusal_with place (Some news) = unless_named news.is_unnamed

abbrev pub paths_of : Option News → List (List ℕ)
paths_of None = []
paths_of (Some news) = news.paths

-- what is there after a row, if it was so before
abbrev pub made_with : (List ℕ → Bool) → Option News → List ℕ → Bool
made_with made None path = made path
made_with made (Some news) path = is_made made news.paths path

-- ---- keys
abbrev pub is_refused : {A : Type 0} → Result A RefusalKind → Bool
is_refused (Ok a) = false
is_refused (Err kind) = true

-- an entry of the source has the key
abbrev pub has_entry : Content → ℕ → Key → Bool
has_entry c source key = is_refused (key_is_free c.records source key.kind key.page key.item)

abbrev pub is_taken : Content → ℕ → Option Key → Bool
is_taken c source None = false
is_taken c source (Some key) = has_entry c source key

-- ---- rows
-- where this is to be made for its place
abbrev pub answer_of : Content → ℕ → Sheet → Option News → SheetRow → RowAnswer
answer_of c source sheet news row = record {
  place = refusal_with (cell_refusal c (place_in (cell_under sheet row column.Place))) news;
  is_taken = is_taken c source (key_of sheet row);
  news = paths_of news;
}

-- what an earlier row has to have made is there for those after it
abbrev pub answers_of : Content → ℕ → Bool → Sheet → (List ℕ → Bool) → List SheetRow → List RowAnswer
answers_of c source makes sheet made [] = []
answers_of c source makes sheet made (row ∷ rows) =
    answer_of c source sheet (row_news c makes made sheet row) row
    ∷ answers_of c source makes sheet (made_with made (row_news c makes made sheet row)) rows

abbrev pub none_made : List ℕ → Bool
none_made path = false

-- the answers for all rows of a sheet
abbrev pub answers_on : Content → ℕ → Bool → Sheet → List RowAnswer
answers_on c source makes sheet = answers_of c source makes sheet none_made sheet.rows

-- ---- for the proofs
-- what is to be made for a row, and what is there after it
abbrev pub IsNoted : Option News → Option News → (List ℕ → Bool) → (List ℕ → Bool) → Type 0
IsNoted right news made now = (news ≡ right) × ((x : List ℕ) → now x ≡ made_with made right x)

-- these were answered, and what the rest gets is what all get
abbrev pub IsOnTheWay : Content → ℕ → Bool → Sheet → (List ℕ → Bool) → List RowAnswer → List SheetRow → List SheetRow
    → Type 0
IsOnTheWay c source makes sheet made answers rest all =
    answers ++ answers_of c source makes sheet made rest ≡ answers_of c source makes sheet none_made all
