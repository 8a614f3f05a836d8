-- The places of an archive that have a path like another: rules of our own.
use Rattle.std.specs.Prelude.{
  ◌≡◌,
  ℕ,
  List,
  [],
  ◌∷◌,
  Option,
  Some,
  None,
  bytes_eq,
  chars,
  filter,
  flat_map,
  map,
  string_bytes,
}
use Rattle.std.specs.FinMap.{keys}
use Rattle.std.specs.BTreeMap.{BTreeMap, get_by_text}
use Rattle.std.specs.Global.{Global, Vec}
use Rattle.std.specs.Option.{option_map, unwrap_or}
use Rattle.std.specs.declared.string.String.{String}
use Rattle.archive_state.specs.Content.{Records}
use Rattle.archive_state.specs.Known.{path_of}
use Rattle.searching.specs.Folding.{folded_text}
use Rattle.searching.specs.Words.{key_text, words_of}
use Rattle.page_answers.specs.declared.index.PlaceIndex.{PlaceIndex}

-- ---- paths
-- the key by which a search looks a path up: its words
abbrev pub search_key : List ℕ → List ℕ
search_key path = key_text (words_of (folded_text (chars path)))

abbrev pub or_none : Option (List ℕ) → List (List ℕ)
or_none None = []
or_none (Some path) = path ∷ []

-- the paths of the places with these numbers
abbrev pub paths_at : Records → List ℕ → List (List ℕ)
paths_at m numbers = flat_map (λ n. or_none (path_of m n)) numbers

-- of all places, by number
abbrev pub place_paths : Records → List (List ℕ)
place_paths m = paths_at m (keys m)

-- those that are looked up by this key
abbrev pub with_key : List ℕ → List (List ℕ) → List (List ℕ)
with_key key paths = filter (λ path. bytes_eq (search_key path) key) paths

-- the paths of places that are looked up as this path is
abbrev pub like : Records → List ℕ → List (List ℕ)
like m path = with_key (search_key path) (place_paths m)

-- ---- an index
abbrev pub paths_in : Vec (String Global) → List (List ℕ)
paths_in paths = map string_bytes paths.items

-- the paths under a key; none where it is not there
abbrev pub under : BTreeMap (String Global) (Vec (String Global)) → List ℕ → List (List ℕ)
under paths key = unwrap_or (option_map paths_in (get_by_text paths key)) []

-- the paths of the index that are like this one
abbrev pub like_in : PlaceIndex → List ℕ → List (List ℕ)
like_in index path = under index.paths (search_key path)

-- it has these paths, each under its key
abbrev pub IsIndex : BTreeMap (String Global) (Vec (String Global)) → List (List ℕ) → Type 0
IsIndex index paths = (key : List ℕ) → under index key ≡ with_key key paths
