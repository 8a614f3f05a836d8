-- The path of a new place, and whether it is within the limits: rules of our own.
use Rattle.std.specs.Prelude.{ℕ, List, length, Bool, false, ◌&&◌, nat_le, Option, Some, None, option_map}
use Rattle.record_kinds.specs.declared.record.Record.{Record}
use Rattle.record_kinds.specs.declared.record.Record.TheVariants as kind
use Rattle.record_shapes.specs.Paths.{parts, is_within_limits}
use Rattle.record_shapes.specs.Fields.{path_below}
use Rattle.archive_state.specs.Content.{Records}
use Rattle.archive_state.specs.Known.{path_of}
use Rattle.command_checks.specs.declared.paths.Measure.{Measure}

-- the path of a new place of that name: its name, or its name and the path of the place that it is within
abbrev pub new_path : Records → List ℕ → Option ℕ → Option (List ℕ)
new_path m name None = Some name
new_path m name (Some q) = option_map (path_below name) (path_of m q)

-- there is a path, and it is within the limits
abbrev pub is_fit : Option (List ℕ) → Bool
is_fit None = false
is_fit (Some path) = is_within_limits path

-- ---- as the code measures it
-- there is a path, of at most so many parts and bytes
abbrev pub is_within : ℕ → ℕ → Option (List ℕ) → Bool
is_within k b None = false
is_within k b (Some path) = nat_le (length (parts path)) k && nat_le (length path) b

abbrev pub measure_of : Record → Option Measure
measure_of (kind.Place p) = Some (record { parts = length (parts p.name); bytes = length p.name; parent = p.parent })
measure_of _ = None

abbrev pub measured : Option Record → Option Measure
measured None = None
measured (Some r) = measure_of r
