-- The paths of places, as an index has them.
use Rattle.std.specs.Prelude.{ℕ, ◌+◌, zero, suc, List, [], Option, Some, None}
use Rattle.std.specs.Option.{unwrap_or}
use Rattle.std.specs.FinMap.{get}
use Rattle.archive_state.specs.Known.{path_under}
use Rattle.gedcom_export.specs.Index.{Index}
use Rattle.gedcom_export.specs.declared.place_name.PlaceName.{PlaceName}

abbrev pub path_with : ℕ → (ℕ → Option (List ℕ)) → Option PlaceName → Option (List ℕ)
path_with n above None = None
path_with n above (Some p) = path_under n above p.name p.parent

-- the path, of at most so many names
abbrev pub path_by : ℕ → (ℕ → Option PlaceName) → ℕ → Option (List ℕ)
path_by zero at n = None
path_by (suc steps) at n = path_with n (path_by steps at) (at n)

-- the path of a place
unfoldable pub path_at : (ℕ → Option PlaceName) → ℕ → Option (List ℕ)
path_at at n = path_by (n + 1) at n

abbrev pub path_in : Index → ℕ → List ℕ
path_in i n = unwrap_or (path_at (get i.names) n) []
