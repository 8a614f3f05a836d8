-- What entering a page does whose places are made where the archive does not have them: the page is tried as if they
-- were there; then they are made, one request each, and the page is entered. Rules of our own.
use Rattle.std.specs.Prelude.{
  ◌≡◌,
  ◌⊎◌,
  ◌<◌,
  ℕ,
  true,
  false,
  List,
  [],
  ◌∷◌,
  ◌++◌,
  map,
  get_or,
  length,
  take,
  Option,
  None,
  Result,
  Ok,
  Err,
}
use Rattle.sqlite.specs.Held.{state}
use Rattle.sqlite_trees.specs.declared.store.Store.{Ghosts}
use Rattle.record_text.specs.declared.refusal.Refusal.{Refusal}
use Rattle.record_text.specs.declared.refusal.RefusalKind.{RefusalKind}
use Rattle.record_text.specs.declared.refusal.RefusalKind.TheVariants.{OutOfMemory}
use Rattle.receipts.specs.declared.answer.Answer.{Answer}
use Rattle.archive_state.specs.Content.{Content}
use Rattle.commands.specs.declared.command.Command.TheVariants as command
use Rattle.commands.specs.declared.row_command.RowCommand.TheVariants as row
use Rattle.archive_core.specs.Machine.{outcome}
use Rattle.archive_core.specs.Steps.{Step}
use Rattle.archive_core.specs.declared.request.Request.{Request}
use Rattle.store.specs.Histories.{Outcome, is_storage}
use Rattle.store.specs.declared.archive.Archive.{Archive}
use Rattle.store_tables.specs.Looking.{IsFailure}
use Rattle.archive_input.specs.Applying.{Steps}
use Rattle.archive_output.specs.Reading.{OnlyReads}
use Rattle.page_batches.specs.Batches.{rows_by, unplaced}
use Rattle.page_batches.specs.Making.{news_on}
use Rattle.page_batches.specs.Placing.{parent_on, place_token}
use Rattle.page_batches.specs.Words.{numbers_of}
use Rattle.page_batches.specs.declared.making.PageNews.{PageNews}
use Rattle.page_batches.specs.declared.rows.BatchRefusal.{BatchRefusal}
use Rattle.page_entries.specs.Entries.{and_then, page_of}
use Rattle.page_entries.specs.declared.dates.DateOrder.{DateOrder}
use Rattle.page_entries.specs.declared.entries.PageEntry.{PageEntry}
use Rattle.page_places.specs.Ways.{name_of}
use Rattle.row_references.specs.declared.words.NumberWord.{NumberWord}
use Rattle.row_references.specs.declared.words.NumberWord.TheVariants.{Number}
use Rattle.table_pages.specs.declared.fault.PageFault.{PageFault}
use Rattle.archive_tables.specs.Ends.{OnRead}
use Rattle.archive_tables.specs.Entering.{EntersPage, of_sheet, page_request}
use Rattle.archive_tables.specs.Sources.{BySource}
use Rattle.archive_tables.specs.declared.entering.PageEnd.{PageEnd}
use Rattle.archive_tables.specs.declared.entering.PageEnd.TheVariants.{Unread}
use Rattle.archive_tables.specs.declared.making.MadePlace.{MadePlace}

-- ---- the trial
-- the paths of the places that are to be made, or why a page is refused with them
abbrev pub Trial : Type 0
Trial = Result (List (List ℕ)) BatchRefusal

-- by what its request would be answered
abbrev pub taken : List ℕ → List (List ℕ) → Step → Trial
taken numbers paths (Ok done) = Ok paths
taken numbers paths (Err e) = Err (of_sheet numbers e)

-- its rows without the places that are to be made
abbrev pub tried : Content → List ℕ → ℕ → List PageEntry → Result PageNews RefusalKind → Trial
tried c token source entries (Err kind) = Err (unplaced kind)
tried c token source entries (Ok news) = and_then (rows_by entries (Ok news.places)) (λ rows.
    taken (numbers_of entries) news.paths (outcome c (page_request token source entries rows)))

-- an archive would take the page, if these places were there; or why not
abbrev pub trial_on : Content → List ℕ → ℕ → List PageEntry → Trial
trial_on c token source entries = tried c token source entries (news_on c token source entries)

-- it is what is right; or memory was refused or the database failed
abbrev pub IsTried : Trial → Trial → Type 0
IsTried (Ok paths) right = right ≡ Ok paths
IsTried (Err e) right = IsFailure e.refusal.kind ⊎ (right ≡ Err e)

-- ---- a place
-- the request that makes the place of a path within another, for the batch of a token
abbrev pub place_request : List ℕ → List ℕ → Option ℕ → Request
place_request token path parent = record {
  token = place_token token path;
  command = command.Row (row.Place (name_of path) parent);
  digest = None;
}

abbrev pub backwards : List MadePlace → List MadePlace
backwards [] = []
backwards (m ∷ more) = backwards more ++ m ∷ []

abbrev pub paths_of : List MadePlace → List (List ℕ)
paths_of made = map (λ (m : MadePlace). m.path) made

module _ {S : Type 0} (g : Ghosts S) (token : List ℕ) where
  -- the request of a place was performed with this outcome; or memory was refused, and the archive is as it was
  abbrev pub IsAsked : List ℕ → Option ℕ → Archive S g → Outcome → Archive S g → Type 0
  IsAsked path parent old result new = Steps g (Ok (place_request token path parent, result)) old new
      ⊎ ((result ≡ Err (record { kind = OutOfMemory; at = None })) × (new ≡ old))

  -- a place was asked for within the place of the path above it, with this outcome: the archive between was only
  -- looked at
  pub record AsksPlace (path : List ℕ) (old : Archive S g) (result : Outcome) (new : Archive S g) : Type 0 where
    pub between : Archive S g
    pub reads : OnlyReads g old between
    pub kept : between.is_lost ≡ false
    pub parent : Option ℕ
    pub right : OnRead (state g old.conn) (state g between.conn) (λ c. parent_on c path ≡ Ok parent)
    pub done : IsAsked path parent between result new

  -- it was not: the place of the path above it is not there; or memory was refused or the database failed
  pub record IsNotAsked (path : List ℕ) (old : Archive S g) (result : Outcome) (new : Archive S g) : Type 0 where
    pub why : RefusalKind
    pub is : result ≡ Err (record { kind = why; at = None })
    pub reads : OnlyReads g old new
    pub lost : new.is_lost ≡ true → is_storage why ≡ true
    pub right : OnRead (state g old.conn) (state g new.conn) (λ c. IsFailure why ⊎ (parent_on c path ≡ Err why))

  abbrev pub MakesPlace : List ℕ → Archive S g → Outcome → Archive S g → Type 0
  MakesPlace path old result new = AsksPlace path old result new ⊎ IsNotAsked path old result new

  -- ---- places
  -- these were made, the last first
  abbrev pub Made : Archive S g → List MadePlace → Archive S g → Type 0
  Made old [] new = new ≡ old
  Made old (m ∷ before) new = (mid : Archive S g) × (answer : Answer) × Made old before mid
      × MakesPlace m.path mid (Ok answer) new × (m.number ≡ answer.first)

  -- the places of the first so many of these paths were made, in their order
  pub record HasMade (paths : List (List ℕ)) (n : ℕ) (made : List MadePlace) (old new : Archive S g) : Type 0 where
    pub first : paths_of made ≡ take n paths
    pub made_so : Made old (backwards made) new
    pub kept : new.is_lost ≡ false

  -- why not all were: the next one was refused; or it was made, and memory for its path was refused
  pub record IsStopped (paths : List (List ℕ)) (made : List MadePlace) (old : Archive S g) (e : Refusal)
      (new : Archive S g) : Type 0 where
    pub mid : Archive S g
    pub n : ℕ
    pub path : List ℕ
    pub before : HasMade paths n made old mid
    pub within : n < length paths
    pub is : path ≡ get_or paths n path
    pub why : MakesPlace path mid (Err e) new
        ⊎ ((e ≡ record { kind = OutOfMemory; at = None }) × (answer : Answer) × MakesPlace path mid (Ok answer) new)

  abbrev pub MakesAll : List (List ℕ) → List MadePlace → Archive S g → Result (Unit {0}) Refusal → Archive S g → Type 0
  MakesAll paths made old (Ok done) new = HasMade paths (length paths) made old new
  MakesAll paths made old (Err e) new = IsStopped paths made old e new

  -- ---- the page
  module _ (source : ℕ) (order : Option DateOrder) (bytes : List ℕ) where
    -- the places of these paths were made, and then the page was entered or refused; or one of them was not made
    abbrev pub EntersTried : List (List ℕ) → Archive S g → List MadePlace → Result PageEnd BatchRefusal → Archive S g
        → Type 0
    EntersTried paths old made result new =
        ((mid : Archive S g) × HasMade paths (length paths) made old mid
        × EntersPage g token (Number source) order bytes mid result new)
        ⊎ ((e : Refusal) × IsStopped paths made old e new × (result ≡ Err (unplaced e.kind)))

    -- nothing was made, and the archive was only looked at: it would refuse the page with its places; or memory was
    -- refused or the database failed
    pub record IsUntaken (entries : List PageEntry) (old : Archive S g) (made : List MadePlace)
        (result : Result PageEnd BatchRefusal) (new : Archive S g) : Type 0 where
      pub why : BatchRefusal
      pub is : result ≡ Err why
      pub none : made ≡ []
      pub reads : OnlyReads g old new
      pub lost : new.is_lost ≡ true → is_storage why.refusal.kind ≡ true
      pub right : OnRead (state g old.conn) (state g new.conn)
          (λ c. IsTried (Err why) (trial_on c token source entries))

    -- the archive would take the page with the places of these paths
    pub record IsTaken (entries : List PageEntry) (old : Archive S g) (made : List MadePlace)
        (result : Result PageEnd BatchRefusal) (new : Archive S g) : Type 0 where
      pub between : Archive S g
      pub paths : List (List ℕ)
      pub reads : OnlyReads g old between
      pub kept : between.is_lost ≡ false
      pub right : OnRead (state g old.conn) (state g between.conn) (λ c. trial_on c token source entries ≡ Ok paths)
      pub entered : EntersTried paths between made result new

    abbrev pub EntersLacking : List PageEntry → Archive S g → List MadePlace → Result PageEnd BatchRefusal
        → Archive S g → Type 0
    EntersLacking entries old made result new = IsUntaken entries old made result new
        ⊎ IsTaken entries old made result new

  -- it is no page, or memory was refused before the archive was looked at
  pub record IsUnread (order : Option DateOrder) (bytes : List ℕ) (old : Archive S g) (made : List MadePlace)
      (result : Result PageEnd BatchRefusal) (new : Archive S g) : Type 0 where
    pub none : made ≡ []
    pub same : new ≡ old
    pub why : (result ≡ Err (unplaced OutOfMemory))
        ⊎ ((fault : PageFault) × (page_of order bytes ≡ Err fault) × (result ≡ Ok (Unread fault)))

  -- its entries are of a source whose number a word gives; where it gives none, nothing was made
  abbrev pub EntersPlaced : NumberWord → Option DateOrder → List ℕ → Archive S g → List MadePlace
      → Result PageEnd BatchRefusal → Archive S g → Type 0
  EntersPlaced word order bytes old made result new = IsUnread order bytes old made result new
      ⊎ ((entries : List PageEntry) × (page_of order bytes ≡ Ok entries)
      × BySource g old new word (λ n. EntersLacking n order bytes entries old made result new)
      (λ why. (made ≡ []) × (result ≡ Err (unplaced why))))
