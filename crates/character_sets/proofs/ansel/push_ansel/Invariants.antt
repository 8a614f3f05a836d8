use Rattle.std.proofs.Common.{◌≡◌, ◌++◌, [], drop, encode_utf8_all, string_bytes}
use Rattle.character_sets.specs.Ansel.{ansel_characters}
use Rattle.character_sets.proofs.ansel.push_ansel.Given as goal

abbrev pub invariant-loop-unit : goal.invariant-loop-unit
invariant-loop-unit l =
    string_bytes l.out ++ encode_utf8_all (ansel_characters l.marks.items (drop l.unit-index l.units))
    ≡ string_bytes l.fn.out ++ encode_utf8_all (ansel_characters [] l.units)
