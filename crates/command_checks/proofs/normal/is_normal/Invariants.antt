use Rattle.std.proofs.Common.{length, ◌↔◌}
use denote.Text.{Utf8}
use denote.Shadow.{shadow}
use Rattle.record_shapes.specs.Paths.{IsNormal}
use Rattle.command_checks.proofs.normal.is_normal.Given as goal

abbrev pub invariant-loop-part : goal.invariant-loop-part
invariant-loop-part l = shadow (Utf8 l.rest) × (IsNormal l.text ↔ IsNormal l.rest)

abbrev pub decreases-loop-part : goal.decreases-loop-part
decreases-loop-part l = length l.rest
