use Rattle.std.proofs.Common.{◌≡◌, ◌++◌, length, string_bytes}
use denote.Text.{Utf8}
use denote.Shadow.{shadow}
use Rattle.record_text.specs.Words.{replaced}
use Rattle.packed_rows.proofs.words.push_replaced.Given as goal

-- what is written, with what is left to be written, is all that is to be written
abbrev pub invariant-front : goal.invariant-front
invariant-front l = shadow (Utf8 l.rest)
    × (string_bytes l.out ++ replaced l.mark l.by l.rest ≡ string_bytes l.fn.out ++ replaced l.mark l.by l.text)

abbrev pub decreases-front : goal.decreases-front
decreases-front l = length l.rest
