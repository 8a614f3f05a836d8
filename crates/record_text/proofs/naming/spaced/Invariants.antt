use Rattle.std.proofs.Common.{◌≡◌, ◌++◌, length, string_bytes}
use denote.Text.{Utf8}
use denote.Shadow.{shadow}
use Rattle.std.specs.List.{join_with_byte}
use Rattle.record_text.specs.Words.{words}
use Rattle.record_text.proofs.Joins.{behind}
use Rattle.record_text.proofs.naming.spaced.Given as goal

abbrev pub invariant-loop-word : goal.invariant-loop-word
invariant-loop-word l = shadow (Utf8 l.rest)
    × (string_bytes l.out ++ behind (words l.rest) ≡ join_with_byte 32 (words l.text))

abbrev pub decreases-loop-word : goal.decreases-loop-word
decreases-loop-word l = length (words l.rest)
