-- What a file tells of its own records. A record is known by its position: its place among the nodes that become
-- records, from 0. The paths of places are rules of our own.
use Rattle.std.specs.Prelude.{
  ℕ,
  ◌+◌,
  zero,
  suc,
  List,
  [],
  ◌∷◌,
  ◌++◌,
  take,
  Option,
  Some,
  None,
  option_map,
  codes,
  if◌then◌else◌,
}
use Rattle.std.specs.List.{slice_get}
use Rattle.std.specs.Option.{unwrap_or}
use Rattle.stored_lines.specs.Tree.{Tree}
use Rattle.stored_lines.specs.Line.{Line, Lines}
use Rattle.record_shapes.specs.Forms.{Known, below, tag_of, tagged}
use Rattle.record_shapes.specs.Reading.{has_path, path_from}

-- the positions below a number, in their order
abbrev pub positions : ℕ → List ℕ
positions zero = []
positions (suc n) = positions n ++ n ∷ []

-- the tag of the node at a position
abbrev pub tag_at : Lines → ℕ → List ℕ
tag_at rs k = unwrap_or (option_map tag_of (slice_get rs k)) []

-- the path at a position, of which these are the first
abbrev pub path_at : List (Option (List ℕ)) → ℕ → Option (List ℕ)
path_at ps k = unwrap_or (slice_get ps k) None

abbrev pub known_by : Lines → List (Option (List ℕ)) → Known
known_by rs ps = record { tag = tag_at rs; path = path_at ps }

-- the path of a place, by those of the nodes before it; of any other node none
abbrev pub path_behind : Lines → List (Option (List ℕ)) → Tree Line → Option (List ℕ)
path_behind rs ps r = if tagged (codes "_LOC") r then Some (path_from (known_by rs ps) (below r)) else None

-- with the paths of the nodes after these
abbrev pub paths_behind : Lines → List (Option (List ℕ)) → Lines → List (Option (List ℕ))
paths_behind rs ps [] = ps
paths_behind rs ps (r ∷ behind) = paths_behind rs (ps ++ path_behind rs ps r ∷ []) behind

-- the paths of all nodes, one after the other
unfoldable pub paths : Lines → List (Option (List ℕ))
paths rs = paths_behind rs [] rs

-- the first position of a path, where the first of all has position k
abbrev pub position_of : List ℕ → ℕ → List (Option (List ℕ)) → Option ℕ
position_of path k [] = None
position_of path k (p ∷ ps) = if has_path path p then Some k else position_of path (k + 1) ps

-- what is known of all records; with only the paths of the places before a position
abbrev pub known : Lines → Known
known rs = known_by rs (paths rs)

abbrev pub known_before : Lines → ℕ → Known
known_before rs k = known_by rs (take k (paths rs))
