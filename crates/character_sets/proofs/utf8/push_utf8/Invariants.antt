use Rattle.std.proofs.Common.{◌≡◌, ◌++◌, encode_utf8_all, length, string_bytes}
use Rattle.character_sets.specs.Utf8.{utf8_characters}
use Rattle.character_sets.proofs.utf8.push_utf8.Given as goal

abbrev pub invariant-characters : goal.invariant-characters
invariant-characters l = string_bytes l.out ++ encode_utf8_all (utf8_characters 0 l.rest)
    ≡ string_bytes l.fn.out ++ encode_utf8_all (utf8_characters 0 l.fn.units)

abbrev pub decreases-characters : goal.decreases-characters
decreases-characters l = length l.rest
