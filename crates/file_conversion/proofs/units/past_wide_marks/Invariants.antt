use Rattle.std.proofs.Common.{◌≡◌, length}
use Rattle.file_conversion.specs.Conversion.{past_wide_marks}
use Rattle.file_conversion.proofs.units.past_wide_marks.Given as goal

abbrev pub invariant-marks : goal.invariant-marks
invariant-marks l = past_wide_marks l.rest ≡ past_wide_marks l.fn.units

abbrev pub decreases-marks : goal.decreases-marks
decreases-marks l = length l.rest
