-- The first positions of paths, one node after the other.
use Rattle.std.specs.Prelude.{ℕ, List, Option, Some, None, if◌then◌else◌}
use Rattle.record_shapes.specs.Reading.{has_path}
use Rattle.import_definitions.specs.Views.{first_of}

-- the position of a node of that path, kept where none was before
abbrev pub with_path : (List ℕ → Option ℕ) → Option (List ℕ) → ℕ → List ℕ → Option ℕ
with_path places path k q = first_of (places q) (if has_path q path then Some k else None)
