use Rattle.std.proofs.Common.{◌≡◌, ◌-◌, ◌≤◌, take}
use Rattle.gedcom_line.specs.Escape.{escaped}
use Rattle.gedcom_line.specs.Split.{char_count, front_len}
use Rattle.gedcom_line.proofs.Fronts.{Beyond}
use Rattle.gedcom_line.proofs.splitting.farthest.Given as goal

abbrev pub invariant-loop-over : goal.invariant-loop-over
invariant-loop-over l = (l.chars ≤ 200) × Beyond l.segment l.chars
    × (l.over ≡ char_count (escaped (take (front_len l.chars l.segment) l.segment)) - 200)

abbrev pub decreases-loop-over : goal.decreases-loop-over
decreases-loop-over l = l.chars
