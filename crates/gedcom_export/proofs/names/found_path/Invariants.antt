use Rattle.std.proofs.Common.{◌≡◌}
use Rattle.std.specs.FinMap as map
use Rattle.std.specs.Prelude.{string_bytes}
use Rattle.gedcom_export.specs.Paths.{path_at}
use Rattle.gedcom_export.proofs.names.found_path.Given as goal
use Rattle.record_shapes.proofs.Climbed.{so_far}

abbrev pub invariant-above : goal.invariant-above
invariant-above l = path_at (map.get l.index.names) l.place
    ≡ so_far (string_bytes l.path) (path_at (map.get l.index.names) l.at)

abbrev pub decreases-above : goal.decreases-above
decreases-above l = l.at
