use Rattle.std.proofs.Common.{◌≡◌}
use Rattle.std.specs.Prelude.{string_bytes}
use Rattle.archive_state.specs.Known.{path_of}
use Rattle.archive_output.proofs.paths.path_of.Given as goal
use Rattle.record_shapes.proofs.Climbed.{so_far}

abbrev pub invariant-above : goal.invariant-above
invariant-above l = path_of l.state.records l.place ≡ so_far (string_bytes l.path) (path_of l.state.records l.at)

abbrev pub decreases-above : goal.decreases-above
decreases-above l = l.at
