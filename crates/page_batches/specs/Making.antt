-- A page whose places are made where an archive does not have them: which are to be made, and the place that an entry
-- has until then. Rules of our own.
use Rattle.std.specs.Prelude.{
  ◌≡◌,
  ℕ,
  Bool,
  true,
  false,
  List,
  [],
  ◌∷◌,
  ◌++◌,
  Option,
  Some,
  None,
  is_some,
  Result,
  Ok,
  Err,
  if◌then◌else◌,
}
use Rattle.std.specs.FinMap.{get}
use Rattle.record_text.specs.declared.refusal.RefusalKind.{RefusalKind}
use Rattle.record_text.specs.declared.refusal.RefusalKind.TheVariants.{BadText, NoSuch}
use Rattle.archive_state.specs.Content.{Content}
use Rattle.commands.specs.Fields.{text_of}
use Rattle.commands.specs.Rows.{and_then}
use Rattle.command_checks.specs.Checks.{demanded_at}
use Rattle.command_checks.specs.declared.kinds.Demand.TheVariants.{Source}
use Rattle.page_entries.specs.declared.entries.PageEntry.{PageEntry}
use Rattle.page_entries.specs.declared.places.PagePlace.{PagePlace}
use Rattle.page_entries.specs.declared.places.PagePlace.TheVariants.{Path}
use Rattle.page_places.specs.News.{is_made, news_for, nothing}
use Rattle.page_places.specs.declared.news.News.{News}
use Rattle.page_batches.specs.Looks.{Found, at_path, maybe_number}
use Rattle.page_batches.specs.declared.making.PageNews.{PageNews}

-- ---- an entry
-- what is to be made, where no place has the path
abbrev pub news_by : Content → (List ℕ → Bool) → List ℕ → Found → News
news_by c made path (Err NoSuch) = news_for c.records made path
news_by c made path found = nothing

-- what is to be made for the place that an entry names
abbrev pub news_at : Content → (List ℕ → Bool) → Option PagePlace → News
news_at c made (Some (Path path)) = news_by c made path (at_path c (text_of path))
news_at c made place = nothing

-- until its place is made an entry has none; a place that cannot be made is refused
abbrev pub none_unless : Bool → Found
none_unless unnamed = if unnamed then Err BadText else Ok None

abbrev pub unless_unnamed : News → Found
unless_unnamed n = none_unless n.is_unnamed

abbrev pub found_by : Content → (List ℕ → Bool) → List ℕ → Found → Found
found_by c made path (Err NoSuch) = unless_unnamed (news_for c.records made path)
found_by c made path found = found

abbrev pub found_at : Content → (List ℕ → Bool) → Option PagePlace → Found
found_at c made (Some (Path path)) = found_by c made path (at_path c (text_of path))
found_at c made place = maybe_number c place

-- ---- all entries
-- what an earlier entry has to have made is there for those after it
abbrev pub news_of : Content → (List ℕ → Bool) → List PageEntry → PageNews
news_of c made [] = record { places = []; paths = [] }
news_of c made (e ∷ entries) =
    let n = news_at c made e.place in
    let more = news_of c (is_made made n.paths) entries in
    record { places = found_at c made e.place ∷ more.places; paths = n.paths ++ more.paths }

abbrev pub none_made : List ℕ → Bool
none_made path = false

abbrev pub news_for_source : Content → ℕ → List PageEntry → Result PageNews RefusalKind
news_for_source c source entries = and_then (demanded_at c Source source) (λ u. Ok (news_of c none_made entries))

-- the source has to be there. Nothing is made where an answer is stored under the token
abbrev pub news_on : Content → List ℕ → ℕ → List PageEntry → Result PageNews RefusalKind
news_on c token source entries = if is_some (get c.receipts token) then Ok (record { places = []; paths = [] })
    else news_for_source c source entries

-- ---- for the proofs
-- these were found and are to be made, and what the rest has is what all have
pub record IsOnTheWay (c : Content) (made : List ℕ → Bool) (found : List Found) (paths : List (List ℕ))
    (rest all : List PageEntry) : Type 0 where
  pub places : found ++ (news_of c made rest).places ≡ (news_of c none_made all).places
  pub news : paths ++ (news_of c made rest).paths ≡ (news_of c none_made all).paths

-- what was found of an entry, and its paths were added; they are made from now on
pub record IsNoted (n : News) (is found : Found) (old new : List (List ℕ)) (made now : List ℕ → Bool) : Type 0 where
  pub found_is : found ≡ is
  pub added : new ≡ old ++ n.paths
  pub noted : (x : List ℕ) → now x ≡ is_made made n.paths x
