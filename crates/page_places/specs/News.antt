-- Which places are to be made so that a path has its place: rules of our own.
use Rattle.std.specs.Prelude.{
  ◌≡◌,
  ◌||◌,
  ℕ,
  Bool,
  true,
  false,
  List,
  [],
  ◌∷◌,
  ◌++◌,
  Option,
  Some,
  None,
  is_some,
  bytes_eq,
  if◌then◌else◌,
}
use Rattle.std.specs.List.{list_any}
use Rattle.archive_state.specs.Content.{Records}
use Rattle.commands.specs.Fields.{text_of}
use Rattle.import_definitions.specs.Made.{lowest_place}
use Rattle.page_places.specs.Ways.{above, is_unnamed}
use Rattle.page_places.specs.declared.news.News.{News}

-- a place of an archive has the path; what is no text is the path of none
abbrev pub has_place : Records → Option (List ℕ) → Bool
has_place m None = false
has_place m (Some path) = is_some (lowest_place m path)

-- so has one that an earlier row has to have made
abbrev pub is_there : Records → (List ℕ → Bool) → List ℕ → Bool
is_there m made path = made path || has_place m (text_of path)

abbrev pub nothing : News
nothing = record { paths = []; is_unnamed = false }

-- what is to be made of a path itself; one without a name cannot be
abbrev pub own : Bool → List ℕ → News
own there path = if there then nothing
    else (if is_unnamed path then record { paths = []; is_unnamed = true }
    else record { paths = path ∷ []; is_unnamed = false })

-- what is to be made below others; nothing, where one of those cannot be
abbrev pub below : News → News → News
below others n = if others.is_unnamed then others
    else record { paths = others.paths ++ n.paths; is_unnamed = n.is_unnamed }

-- of these paths, each within the next one
abbrev pub news_of : Records → (List ℕ → Bool) → List (List ℕ) → News
news_of m made [] = nothing
news_of m made (path ∷ paths) = below (news_of m made paths) (own (is_there m made path) path)

-- of the place of a path and of those above it
abbrev pub news_for : Records → (List ℕ → Bool) → List ℕ → News
news_for m made path = news_of m made (path ∷ above path)

-- one of these paths, or one that was made before
abbrev pub is_made : (List ℕ → Bool) → List (List ℕ) → List ℕ → Bool
is_made made paths path = made path || list_any (λ other. bytes_eq path other) paths

-- ---- for the proofs
-- these were added, and whether one cannot be made is answered
abbrev pub IsNews : News → List (List ℕ) → List (List ℕ) → Bool → Type 0
IsNews n old new cut = (new ≡ old ++ n.paths) × (cut ≡ n.is_unnamed)
