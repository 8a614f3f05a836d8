use Rattle.std.proofs.Common.{◌≡◌, length}
use denote.Text.{Utf8}
use denote.Shadow.{shadow}
use Rattle.record_shapes.specs.Paths.{from_word}
use Rattle.field_rows.proofs.normal.from_word.Given as goal

abbrev pub invariant-loop-next : goal.invariant-loop-next
invariant-loop-next l = shadow (Utf8 l.rest) × (from_word l.rest ≡ from_word l.text)

abbrev pub decreases-loop-next : goal.decreases-loop-next
decreases-loop-next l = length l.rest
